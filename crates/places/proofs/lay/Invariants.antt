use Rattle.places.proofs.Laying.{Laid}
use Rattle.places.proofs.lay.Given as goal

abbrev pub invariant-loop-k : goal.invariant-loop-k
invariant-loop-k l = Laid l.initial.r l.numbers l.k l.r
