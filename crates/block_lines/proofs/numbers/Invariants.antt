use Rattle.text.specs.Text.{number}
use Rattle.block_lines.proofs.Tables.{Printed}
use Rattle.block_lines.proofs.numbers.Given as goal

abbrev pub invariant-loop-i : goal.invariant-loop-i
invariant-loop-i l = Printed number l.all 32 l.n l.initial.buf l.start l.i l.at l.buf
