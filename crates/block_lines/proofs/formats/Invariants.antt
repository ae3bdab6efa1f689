use Rattle.block_lines.specs.Lines.{format_line}
use Rattle.block_lines.proofs.Tables.{Printed}
use Rattle.block_lines.proofs.formats.Given as goal

abbrev pub invariant-loop-i : goal.invariant-loop-i
invariant-loop-i l = Printed format_line l.all 8 l.n l.initial.buf l.start l.i l.at l.buf
