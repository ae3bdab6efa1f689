use Rattle.intervals.proofs.Tests.{Rest}
use Rattle.intervals.specs.Intervals.{among, list_at}
use Rattle.intervals.proofs.has.Given as goal

abbrev pub invariant-loop-i : goal.invariant-loop-i
invariant-loop-i l = Rest l.s l.p l.k l.i (among l.x) (among l.x (list_at l.s l.p l.k))
