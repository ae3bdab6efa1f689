-- Document 01, "Numbers": rules 1 to 6 of a control block, and "21 to 26: as 1 to 6", said once. `s` is the block, and a descriptor starts at `o`.
use Rattle.std.specs.Prelude.{ℕ, ◌+◌, List, [], ◌∷◌, Bool, not, ◌&&◌, ◌||◌, length, get_or, ltb, eqb}
use Rattle.le.specs.Le.{byte, le16_at}
use Rattle.rules.specs.Numbered.{Row, row}
use Rattle.blocks.specs.declared.Limits.{Limits}

-- CS_INTERFACE, the type of every descriptor of a block; and the subtype of its header
abbrev pub descriptor_type : ℕ
descriptor_type = 0x24

abbrev pub header_subtype : ℕ
header_subtype = 1

-- bLength
abbrev pub len_at : List ℕ → ℕ → ℕ
len_at s o = get_or s o 0

-- of the block as a whole: under the least bytes; over the most; bytes 1, 2 are not 0x24, 1; wTotalLength is not the block's length
unfoldable pub whole_rows : Limits → List ℕ → List Row
whole_rows b s =
    row b.first (ltb (length s) b.least)
    ∷ row (b.first + 1) (ltb b.most (length s))
    ∷ row (b.first + 2) (not (eqb (get_or s 1 0) descriptor_type && eqb (get_or s 2 0) header_subtype))
    ∷ row (b.first + 3) (not (eqb (le16_at s b.total) (length s)))
    ∷ []

-- 5, 25: bLength under 3 or past the end
unfoldable pub length_broken : List ℕ → ℕ → Bool
length_broken s o = ltb (len_at s o) 3 || ltb (length s) (o + len_at s o)

-- 6, 26: type not 0x24, or a second header
unfoldable pub type_broken : List ℕ → ℕ → Bool
type_broken s o = not (eqb (byte s o 1) descriptor_type) || (eqb (byte s o 2) header_subtype && not (eqb o 0))
