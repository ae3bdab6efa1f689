-- Little-endian numbers at an offset of a list of bytes; a byte past the end reads as 0.
use Rattle.std.specs.Prelude.{ℕ, ◌+◌, ◌*◌, List, get_or}

-- byte k of what stands at o
abbrev pub byte : List ℕ → ℕ → ℕ → ℕ
byte s o k = get_or s (o + k) 0

abbrev pub le16_at : List ℕ → ℕ → ℕ
le16_at s o = get_or s o 0 + get_or s (o + 1) 0 * 256

abbrev pub le32_at : List ℕ → ℕ → ℕ
le32_at s o = le16_at s o + le16_at s (o + 2) * 65536
