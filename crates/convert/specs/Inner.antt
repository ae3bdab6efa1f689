-- What the contracts cite: record after record, with the number as the code counts it. Nothing here needs to be believed: proofs/Theorems ties it to the words.
use Rattle.std.specs.Prelude.{◌≡◌, ℕ, ◌+◌, ◌-◌, ◌%◌, ◌^◌, Bool, true, false, ◌||◌, List, [], ◌∷◌, ◌++◌, length, take, drop, ◌==◌}
use Rattle.std.proofs.Math.Seq.{paste}
use Rattle.text.specs.Put.{Put}
use Rattle.records.specs.declared.Form.TheVariants.{Short}
use Rattle.records.specs.Record.{kind_at, record_bad}
use Rattle.cuts.specs.Cuts.{cut_of, After, least_of}
use Rattle.convert.specs.declared.Converter.{Converter}
use Rattle.convert.specs.declared.Reader.{Reader}
use Rattle.convert.specs.Convert.{long_for}

abbrev pub new_converter : Converter
new_converter = record { closed = false; stopped = false; number = 1 }

abbrev pub new_reader : Reader
new_reader = record { converter = new_converter; have = 0 }

abbrev pub next_number : ℕ → ℕ
next_number n = (n + 1) % 2 ^ 64

-- it stops at this record; it goes on to the next
abbrev pub stop_of : Converter → Converter
stop_of c = record { closed = c.closed; stopped = true; number = c.number }

abbrev pub on_of : Converter → List ℕ → Converter
on_of c r = record { closed = (kind_at r == 2); stopped = false; number = next_number c.number }

-- a record where it has stopped, a bad one, a good one
abbrev pub one_by : Bool → Bool → Converter → List ℕ → Converter
one_by true bad c r = c
one_by false true c r = stop_of c
one_by false false c r = on_of c r

abbrev pub text_by : Bool → Bool → List ℕ → List ℕ
text_by true bad r = []
text_by false true r = 255 ∷ []
text_by false false r = long_for r

abbrev pub one_of : Converter → List ℕ → Converter
one_of c r = one_by c.stopped (c.closed || record_bad Short r) c r

abbrev pub text_of : Converter → List ℕ → List ℕ
text_of c r = text_by c.stopped (c.closed || record_bad Short r) r

-- all the records
abbrev pub all_of : Converter → List (List ℕ) → Converter
all_of c [] = c
all_of c (r ∷ rs) = all_of (one_of c r) rs

abbrev pub texts_of : Converter → List (List ℕ) → List ℕ
texts_of c [] = []
texts_of c (r ∷ rs) = text_of c r ++ texts_of (one_of c r) rs

-- a converter and what it has written
pub record So : Type 0 where
  pub converter : Converter
  pub written : List ℕ

abbrev pub over : So → List (List ℕ) → So
over s rs = record { converter = all_of s.converter rs; written = s.written ++ texts_of s.converter rs }

-- it begins to write
abbrev pub so_far : Converter → So
so_far c = record { converter = c; written = [] }

-- the whole records from `from` on, and what is left over
abbrev pub end_of : ℕ → List ℕ → ℕ
end_of from input = length input - (length input - from) % 64

abbrev pub part_of : ℕ → List ℕ → List ℕ
part_of from input = take (end_of from input - from) (drop from input)

abbrev pub left_of : ℕ → List ℕ → List ℕ
left_of from input = take (length input - end_of from input) (drop (end_of from input) input)

pub record Gone (c : Converter) (at : ℕ) (piece input : List ℕ) (from : ℕ) (old : List ℕ) (r : Reader) (wrote : ℕ) (piece' new : List ℕ) : Type 0 where
  pub converter : r.converter ≡ all_of c (cut_of 64 (part_of from input))
  pub put : Put old at (texts_of c (cut_of 64 (part_of from input))) wrote new
  pub have : r.have ≡ least_of (length (left_of from input)) (length piece - 0)
  pub kept : piece' ≡ paste piece 0 (take r.have (left_of from input)) r.have

-- ONE READ: the whole records are converted, into the lent bytes from their front on, and what is left over waits at the front of the piece
pub record Fed (r : Reader) (piece input old : List ℕ) (r' : Reader) (wrote : ℕ) (piece' new : List ℕ) : Type 0 where
  pub written : List ℕ
  pub after : After 64 over (so_far r.converter) (take r.have piece ++ input) (record { converter = r'.converter; written = written }) r'.have piece'
  pub put : Put old 0 written wrote new

-- THE END: what waits is the last record
pub record Ended (r : Reader) (piece old : List ℕ) (r' : Reader) (wrote : ℕ) (new : List ℕ) : Type 0 where
  pub converter : r'.converter ≡ all_of r.converter (cut_of 64 (take r.have piece))
  pub none : r'.have ≡ 0
  pub put : Put old 0 (texts_of r.converter (cut_of 64 (take r.have piece))) wrote new
