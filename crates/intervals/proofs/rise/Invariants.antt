use Rattle.intervals.proofs.Tests.{Rest}
use Rattle.intervals.specs.Intervals.{rises, list_at}
use Rattle.intervals.proofs.rise.Given as goal

abbrev pub invariant-loop-i : goal.invariant-loop-i
invariant-loop-i l = Rest l.s l.p l.k l.i (rises l.before) (rises 0 (list_at l.s l.p l.k))
