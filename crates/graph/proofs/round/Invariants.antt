use Rattle.graph.proofs.Chains.{Rounding}
use Rattle.graph.proofs.round.Given as goal

abbrev pub invariant-loop-i : goal.invariant-loop-i
invariant-loop-i l = Rounding l.initial.m l.k l.m l.i
