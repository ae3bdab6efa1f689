use Rattle.entities.proofs.Finding.{Seeking}
use Rattle.entities.proofs.find_among.Given as goal

abbrev pub invariant-loop-i : goal.invariant-loop-i
invariant-loop-i l = Seeking l.e-items l.count l.id l.i
