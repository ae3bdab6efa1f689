use Rattle.name_tables.proofs.Names.{Looks}
use Rattle.name_tables.proofs.end.Given as goal

abbrev pub invariant-loop-i : goal.invariant-loop-i
invariant-loop-i l = Looks l.names l.from l.i
