-- THE SAME, CASE BY CASE: the good records are those before the first that is bad in itself or comes after close; a long one for each is written.
-- Where that is all of them nothing more is written; else, for the first bad one, record N, one byte FF after the N - 1 before it.
use Rattle.std.specs.Prelude.{◌≡◌, ℕ, suc, true, false, ◌⊎◌, List, [], ◌∷◌, ◌++◌, length}
use Rattle.text.specs.Text.{texts}
use Rattle.records.specs.declared.Form.TheVariants.{Short}
use Rattle.trace.specs.Standing.{bad_after}
use Rattle.convert.specs.Convert.{long_for}

-- each of these is good, after those before it
abbrev pub AllFine : List (List ℕ) → Type 0
AllFine rs = (before : List (List ℕ)) (r : List ℕ) (rest : List (List ℕ)) → rs ≡ before ++ (r ∷ rest) → bad_after Short before r ≡ false

-- all of the records are good
pub record Whole (rs : List (List ℕ)) (out : List ℕ) (n : ℕ) : Type 0 where
  pub fine : AllFine rs
  pub written : out ≡ texts long_for rs
  pub none : n ≡ 0

-- record N is the first bad one
pub record Cut (rs : List (List ℕ)) (out : List ℕ) (n : ℕ) : Type 0 where
  pub before : List (List ℕ)
  pub this : List ℕ
  pub rest : List (List ℕ)
  pub cut : rs ≡ before ++ (this ∷ rest)
  pub fine : AllFine before
  pub bad : bad_after Short before this ≡ true
  pub written : out ≡ texts long_for before ++ (255 ∷ [])
  pub number : n ≡ suc (length before)

abbrev pub Converts : List (List ℕ) → List ℕ → ℕ → Type 0
Converts rs out n = Whole rs out n ⊎ Cut rs out n
