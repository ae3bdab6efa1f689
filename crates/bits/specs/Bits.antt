-- The bits of a number.
use Rattle.std.specs.Prelude.{ℕ, ◌/◌, ◌%◌, ◌^◌, ◌≡◌, Bool, eqb}
use Rattle.std.specs.Int.Bits.{bit_or}

-- the bits of a word
abbrev pub width : ℕ
width = 64

-- bit j of x, 0 or 1
unfoldable pub bit_of : ℕ → ℕ → ℕ
bit_of x j = x / 2 ^ j % 2

-- bit j of x is set
abbrev pub Bit : ℕ → ℕ → Type 0
Bit x j = bit_of x j ≡ 1

abbrev pub has_bit : ℕ → ℕ → Bool
has_bit x j = eqb (bit_of x j) 1

-- x with bit j set too
unfoldable pub with_bit : ℕ → ℕ → ℕ
with_bit x j = bit_or x (2 ^ j)
