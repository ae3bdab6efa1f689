-- Rules in words: the number of each and what it asks, in the order in which they are checked.
use Rattle.std.specs.Prelude.{ℕ, ◌≡◌, List, [], ◌∷◌, ◌⊎◌}

pub record Rule : Type 1 where
  pub number : ℕ
  pub asks : Type 0

abbrev pub rule : ℕ → Type 0 → Rule
rule k P = record { number = k; asks = P }

-- every rule is kept
abbrev pub AllKept : List Rule → Type 0
AllKept [] = Unit {0}
AllKept (r ∷ rs) = r.asks × AllKept rs

-- rule k is not kept, and every earlier one is
abbrev pub FirstFails : List Rule → ℕ → Type 0
FirstFails [] k = ⊥
FirstFails (r ∷ rs) k = ((k ≡ r.number) × (r.asks → ⊥)) ⊎ (r.asks × FirstFails rs k)
