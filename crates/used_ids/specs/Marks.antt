-- Marks of IDs, a bit each: an ID's is bit id % 64 of word id / 64.
use Rattle.std.specs.Prelude.{ℕ, ◌/◌, ◌%◌, List, Bool, get_or, set, replicate}
use Rattle.bits.specs.Bits.{width, has_bit, with_bit}

-- four words have a bit for each of 256 IDs
abbrev pub words : ℕ
words = 4

-- the word that has the ID's bit
abbrev pub word_of : List ℕ → ℕ → ℕ
word_of m id = get_or m (id / width) 0

unfoldable pub no_marks : List ℕ
no_marks = replicate words 0

unfoldable pub marked : List ℕ → ℕ → Bool
marked m id = has_bit (word_of m id) (id % width)

unfoldable pub with_mark : List ℕ → ℕ → List ℕ
with_mark m id = set m (id / width) (with_bit (word_of m id) (id % width))
