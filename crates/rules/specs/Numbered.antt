-- Numbered rules, as rows.
use Rattle.std.specs.Prelude.{ℕ, zero, suc, ◌≡◌, List, [], ◌∷◌, Bool, true, false, ◌||◌, eqb, Result, Ok, Err}
use Rattle.rules.specs.IfElse.{if_else}

-- A rule with its number, and whether it is broken. Rules stand in a list in the order in which they are checked, whatever their numbers.
pub record Row : Type 0 where
  pub number : ℕ
  pub broken : Bool

abbrev pub row : ℕ → Bool → Row
row k b = record { number = k; broken = b }

abbrev pub or_else : Bool → ℕ → ℕ → ℕ
or_else true k r = k
or_else false k r = r

-- the number of the first that is broken, 0 where none is
abbrev pub first_row : List Row → ℕ
first_row [] = 0
first_row (r ∷ rs) = or_else r.broken r.number (first_row rs)

-- as code answers it: Ok where none is broken, else the number of the first that is
abbrev pub kept : ℕ → Result (Unit {0}) ℕ
kept zero = Ok tt
kept (suc k) = Err (suc k)

-- number k is given: its row is broken and no earlier one is
pub data Given : List Row → ℕ → Type 0 where
  here : (r : Row) (rs : List Row) → r.broken ≡ true → Given (r ∷ rs) r.number
  later : (r : Row) (rs : List Row) (k : ℕ) → r.broken ≡ false → Given rs k → Given (r ∷ rs) k

-- the rows that are checked before number k's, and those after it
unfoldable pub rows_before : ℕ → List Row → List Row
rows_before k [] = []
rows_before k (r ∷ rs) = if_else (eqb r.number k) [] (r ∷ rows_before k rs)

unfoldable pub rows_after : ℕ → List Row → List Row
rows_after k [] = []
rows_after k (r ∷ rs) = if_else (eqb r.number k) rs (rows_after k rs)

-- number k's row is broken
unfoldable pub is_broken : ℕ → List Row → Bool
is_broken k [] = false
is_broken k (r ∷ rs) = if_else (eqb r.number k) r.broken (is_broken k rs)

-- no row is broken
abbrev pub NoneOf : List Row → Type 0
NoneOf [] = Unit {0}
NoneOf (r ∷ rs) = (r.broken ≡ false) × NoneOf rs

-- a test is met at some number below n
unfoldable pub any_below : ℕ → (ℕ → Bool) → Bool
any_below zero f = false
any_below (suc n) f = f n || any_below n f
