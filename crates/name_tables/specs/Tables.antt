-- A table of names is one text: each name stands on a line of its own.
use Rattle.std.specs.Prelude.{Bool, true, false, ◌&&◌, List, [], ◌∷◌, ℕ, zero, suc, ◌-◌, T, eqb, ltb, leb, length, take, drop}
use Rattle.text.specs.Text.{Row}

-- how long the first name is: it ends before the first line end
abbrev pub length_by : Bool → ℕ → ℕ
length_by true n = 0
length_by false n = suc n

abbrev pub name_length : List ℕ → ℕ
name_length [] = 0
name_length (b ∷ t) = length_by (eqb b 10) (name_length t)

abbrev pub first : List ℕ → List ℕ
first t = take (name_length t) t

-- what stands behind the first name and its end, and behind the first k
abbrev pub rest : List ℕ → List ℕ
rest t = drop (suc (name_length t)) t

abbrev pub behind : ℕ → List ℕ → List ℕ
behind zero t = t
behind (suc k) t = behind k (rest t)

-- THE K-TH NAME, from 0 on; empty where the table has fewer
abbrev pub name_at : ℕ → List ℕ → List ℕ
name_at k t = first (behind k t)

-- THE ROWS of a table: its names in order, each with how many numbers stand behind it
abbrev pub rows_of : List ℕ → List ℕ → List Row
rows_of t [] = []
rows_of t (c ∷ cs) = record { name = first t; count = c } ∷ rows_of (rest t) cs

-- there is a name, with its end, for each count, and n numbers are enough for all counts
abbrev pub is_enough : List ℕ → List ℕ → ℕ → Bool
is_enough t [] n = true
is_enough t (c ∷ cs) n = ltb (name_length t) (length t) && (leb c n && is_enough (rest t) cs (n - c))

pub record Enough (t cs : List ℕ) (n : ℕ) : Type 0 where
  pub each : T (is_enough t cs n)
