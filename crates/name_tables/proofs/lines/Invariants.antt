use Rattle.name_tables.proofs.Each.{Prints}
use Rattle.name_tables.proofs.lines.Given as goal

abbrev pub invariant-loop-count : goal.invariant-loop-count
invariant-loop-count l = Prints l.initial.buf l.start l.names l.counts l.ns l.at l.name l.from l.count-index l.buf
