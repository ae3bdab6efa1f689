-- Document 02, "Thirteen": a record of 3,076 bytes.
use Rattle.std.specs.Prelude.{ℕ, ◌-◌, ◌/◌, ◌%◌, List, ◌∷◌, ◌++◌, length, replicate}

abbrev pub long_size : ℕ
long_size = 3_076

-- the most data
abbrev pub data_most : ℕ
data_most = 3_072

-- "kind, a zero, a two-byte length, the bytes, zero fill"
abbrev pub long_of : ℕ → List ℕ → List ℕ
long_of kind bytes = kind ∷ 0 ∷ (length bytes % 256) ∷ (length bytes / 256) ∷ (bytes ++ replicate (data_most - length bytes) 0)
