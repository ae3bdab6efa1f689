-- A stream that comes in reads of any size, cut into records of n bytes each.
use Rattle.std.specs.Prelude.{ℕ, zero, suc, ◌+◌, ◌-◌, ◌*◌, ◌<◌, ◌≡◌, List, [], ◌∷◌, ◌++◌, length, take, drop, ltb}
use Rattle.rules.specs.IfElse.{if_else}

-- THE RECORDS: n bytes each, and the last one what is left
abbrev pub cut_by : ℕ → ℕ → List ℕ → List (List ℕ)
cut_by n zero l = []
cut_by n (suc k) [] = []
cut_by n (suc k) (b ∷ bs) = take n (b ∷ bs) ∷ cut_by n k (drop n (b ∷ bs))

unfoldable pub cut_of : ℕ → List ℕ → List (List ℕ)
cut_of n l = cut_by n (length l) l

-- AFTER SO MANY BYTES, from a on: `over` has gone over the whole records, many of n bytes each, and the bytes after them, fewer than n, stand at the front of the piece
pub record After {A : Type 0} (n : ℕ) (over : A → List (List ℕ) → A) (a : A) (bytes : List ℕ) (x : A) (have : ℕ) (piece : List ℕ) : Type 0 where
  pub many : ℕ
  pub whole : List ℕ
  pub left : List ℕ
  pub all : bytes ≡ whole ++ left
  pub full : length whole ≡ many * n
  pub short : length left < n
  pub read : x ≡ over a (cut_of n whole)
  pub have₀ : have ≡ length left
  pub kept : take have piece ≡ left

-- who goes over some records and then over some more has gone over all of them
abbrev pub Folds : {A : Type 0} → (A → List (List ℕ) → A) → Type 0
Folds {A} over = (a : A) (xs ys : List (List ℕ)) → over a (xs ++ ys) ≡ over (over a xs) ys

-- the lesser of two
abbrev pub least_of : ℕ → ℕ → ℕ
least_of a b = if_else (ltb a b) a b

-- where the record ends that begins at `at`, of so many bytes
abbrev pub next_of : ℕ → ℕ → ℕ → ℕ
next_of n at len = if_else (ltb (len - at) n) len (at + n)
