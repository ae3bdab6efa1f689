use Rattle.block_lines.specs.Lines.{frame_line}
use Rattle.block_lines.proofs.Tables.{Printed}
use Rattle.block_lines.proofs.frames.Given as goal

abbrev pub invariant-loop-i : goal.invariant-loop-i
invariant-loop-i l = Printed frame_line l.all 64 l.n l.initial.buf l.start l.i l.at l.buf
