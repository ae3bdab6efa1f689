-- The block behind an interface descriptor, in document 02's words. `s` is the configuration, and the descriptor stands at `o`.
use Rattle.std.specs.Prelude.{ℕ, ◌+◌, ◌≡◌, List, length, take, drop}
use Rattle.blocks.specs.Blocks.{len_at}
use Rattle.configuration_layout.specs.Words.{Run}

-- straight after it
abbrev pub start_of : List ℕ → ℕ → ℕ
start_of s o = o + len_at s o

-- the longest run of 0x24 descriptors from there on
pub record BlockLies (s : List ℕ) (o offset n : ℕ) : Type 0 where
  pub start : offset ≡ start_of s o
  pub run : Run s offset (offset + n)

-- b is that block: its bytes, as they lie in the configuration
pub record BlockIs (s : List ℕ) (o : ℕ) (b : List ℕ) : Type 0 where
  pub lies : BlockLies s o (start_of s o) (length b)
  pub same : b ≡ take (length b) (drop (start_of s o) s)
