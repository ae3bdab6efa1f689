use Rattle.entities.specs.Table.{entities_most}
use Rattle.block_lines.specs.Lines.{entity_line}
use Rattle.block_lines.proofs.Tables.{Printed}
use Rattle.block_lines.proofs.entities.Given as goal

abbrev pub invariant-loop-i : goal.invariant-loop-i
invariant-loop-i l = Printed entity_line l.t.entities entities_most l.n l.initial.buf l.start l.i l.at l.buf
