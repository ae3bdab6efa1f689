-- Document 01, "The ledger program", and document 02, Thirteen: one record of a trace. `r` is the record's bytes.
use Rattle.std.specs.Prelude.{ℕ, zero, suc, ◌+◌, ◌*◌, List, [], ◌∷◌, Bool, false, ◌||◌, not, ◌&&◌, length, get_or, take, drop, ltb, eqb}
use Rattle.fill.specs.Fill.{any_set}
use Rattle.records.specs.declared.Form.{Form}
use Rattle.records.specs.declared.Form.TheVariants.{Short, Long}
use Rattle.records.specs.Form.{size_of, head_of, most_of}

-- kind (0 transfer, 1 lost, 2 close), length, the bytes, zero fill
abbrev pub kind_at : List ℕ → ℕ
kind_at r = get_or r 0 0

-- the length: the second byte of a short record; of a long one the third and the fourth, the low one first
abbrev pub length_at : Form → List ℕ → ℕ
length_at Short r = get_or r 1 0
length_at Long r = get_or r 2 0 + get_or r 3 0 * 256

-- the second byte of a long record is not 0
abbrev pub second_set : Form → List ℕ → Bool
second_set Short r = false
second_set Long r = not (eqb (get_or r 1 0) 0)

abbrev pub bytes_at : Form → List ℕ → List ℕ
bytes_at f r = take (length_at f r) (drop (head_of f) r)

-- a partial record, kind over 2, the second byte not 0, length over the most, a length with kind 1 or 2, nonzero fill
unfoldable pub record_bad : Form → List ℕ → Bool
record_bad f r =
    not (eqb (length r) (size_of f))
    || (ltb 2 (kind_at r)
    || (second_set f r
    || (ltb (most_of f) (length_at f r)
    || ((not (eqb (kind_at r) 0) && not (eqb (length_at f r) 0))
    || any_set (drop (head_of f + length_at f r) r)))))

-- THE RECORDS of a trace: each of the form's size, and the last one what is left
abbrev pub records_by : Form → ℕ → List ℕ → List (List ℕ)
records_by f zero l = []
records_by f (suc k) [] = []
records_by f (suc k) (b ∷ bs) = take (size_of f) (b ∷ bs) ∷ records_by f k (drop (size_of f) (b ∷ bs))

unfoldable pub records_of : Form → List ℕ → List (List ℕ)
records_of f l = records_by f (length l) l
