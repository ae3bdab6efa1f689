-- The signed step as an integer: what the ledger's step (ledger/specs/Step) stands for.
use Rattle.std.specs.Prelude.{ℕ, ◌-◌, ◌<◌, ◌^◌, ◌≡◌, List, [], ◌∷◌, ℤ, pos, neg_ℤ, ◌+ℤ◌, ◌-ℤ◌, ◌*ℤ◌, ◌≤ℤ◌}
use Rattle.session_rules.specs.declared.Step.{Step}
use Rattle.session_rules.specs.declared.Step.TheVariants.{Forward, Backward}
use Rattle.session_rules.specs.Step.{step_of}

-- so many ticks forward, or so many backward
abbrev pub number_of : Step → ℤ
number_of (Forward n) = pos n
number_of (Backward n) = neg_ℤ (pos n)

-- the signed step from a to b
abbrev pub signed : ℕ → ℕ → ℤ
signed a b = number_of (step_of a b)

-- a row of stamps, each below 2^32
abbrev pub Stamps : List ℕ → Type 0
Stamps [] = Unit
Stamps (a ∷ bs) = (a < 2 ^ 32) × Stamps bs

-- the last of a row that begins with a, and the steps along it added up
abbrev pub last_stamp : ℕ → List ℕ → ℕ
last_stamp a [] = a
last_stamp a (b ∷ bs) = last_stamp b bs

abbrev pub along : ℕ → List ℕ → ℤ
along a [] = pos 0
along a (b ∷ bs) = signed a b +ℤ along b bs

-- −2^31 and 2^31−1
abbrev pub lowest : ℤ
lowest = neg_ℤ (pos (2 ^ 31))

abbrev pub highest : ℤ
highest = pos (2 ^ 31 - 1)

-- from −2^31 to 2^31−1
pub record InRange (z : ℤ) : Type 0 where
  pub low : lowest ≤ℤ z
  pub high : z ≤ℤ highest

-- equal modulo 2^32: the difference is a multiple of 2^32
pub record Modulo (x y : ℤ) : Type 0 where
  pub times : ℤ
  pub multiple : x -ℤ y ≡ times *ℤ pos (2 ^ 32)
