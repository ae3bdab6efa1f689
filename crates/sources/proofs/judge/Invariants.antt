use Rattle.sources.proofs.Judging.{Judging}
use Rattle.sources.proofs.judge.Given as goal

abbrev pub invariant-loop-i : goal.invariant-loop-i
invariant-loop-i l = Judging l.s l.t l.rows l.output l.i
