use Rattle.places.proofs.Branches.{Read}
use Rattle.places.proofs.numbers_of.Given as goal

abbrev pub invariant-loop-k : goal.invariant-loop-k
invariant-loop-k l = Read l.r l.k l.numbers
