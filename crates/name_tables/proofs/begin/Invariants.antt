use Rattle.name_tables.proofs.Names.{Passed}
use Rattle.name_tables.proofs.begin.Given as goal

abbrev pub invariant-loop-i : goal.invariant-loop-i
invariant-loop-i l = Passed l.names l.k l.at l._i
