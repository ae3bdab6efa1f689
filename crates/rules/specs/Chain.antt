-- Chains of an edge relation, loops, and the first place on a loop.
use Rattle.std.specs.Prelude.{ℕ}
use Rattle.rules.specs.First.{First}

-- one edge, or an edge and a chain from where it leads: at least one edge
pub data Chain (E : ℕ → ℕ → Type 0) : ℕ → ℕ → Type 0 where
  one : {i j : ℕ} → E i j → Chain E i j
  more : {i j k : ℕ} → E i j → Chain E j k → Chain E i k

-- a chain from i returns to i
abbrev pub OnLoop : (ℕ → ℕ → Type 0) → ℕ → Type 0
OnLoop E i = Chain E i i

-- r is the first number below n that is on a loop, or n where none is
abbrev pub FirstLoop : (ℕ → ℕ → Type 0) → ℕ → ℕ → Type 0
FirstLoop E n r = First (OnLoop E) n r
