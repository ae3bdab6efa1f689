-- The first place where something holds.
use Rattle.std.specs.Prelude.{ℕ, ◌≤◌, ◌<◌}

-- P holds of no number below n
abbrev pub NoneBelow : ℕ → (ℕ → Type 0) → Type 0
NoneBelow n P = (i : ℕ) → i < n → P i → ⊥

-- r is the first number below n of which P holds, or n where it holds of none
pub record First (P : ℕ → Type 0) (n r : ℕ) : Type 0 where
  pub within : r ≤ n
  pub before : NoneBelow r P
  pub here : r < n → P r
