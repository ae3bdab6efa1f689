use Prim.Native.Nat.{ℕ, ◌<◌}
use Rattle.graph.specs.Rows.{Edge}
use Rattle.graph.proofs.first_loop.Given as goal

abbrev pub invariant-loop-i : goal.invariant-loop-i
invariant-loop-i l = (a : ℕ) → a < l.i → Edge l.x-items a a → ⊥
