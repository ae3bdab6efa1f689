-- Rows of bits, and the edges that they draw.
use Rattle.std.specs.Prelude.{ℕ, List, ◌⊎◌, get_or}
use Rattle.bits.specs.Bits.{Bit}

-- the places of a graph, and the bits of a row
abbrev pub places : ℕ
places = 32

-- row i has bit j set
abbrev pub Edge : List ℕ → ℕ → ℕ → Type 0
Edge rows i j = Bit (get_or rows i 0) j

-- an edge, or two by way of k
abbrev pub Through : (ℕ → ℕ → Type 0) → ℕ → ℕ → ℕ → Type 0
Through E k i j = E i j ⊎ (E i k × E k j)
