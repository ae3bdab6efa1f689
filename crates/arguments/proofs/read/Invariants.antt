use Rattle.arguments.proofs.Spelling.{Spelling}
use Rattle.arguments.proofs.read.Given as goal

abbrev pub invariant-loop-d : goal.invariant-loop-d
invariant-loop-d l = Spelling l.most l.word l.value l.d-index
