use Rattle.camera_names.proofs.Bits.{Bitwise}
use Rattle.camera_names.proofs.controls.Given as goal

abbrev pub invariant-loop-i : goal.invariant-loop-i
invariant-loop-i l = Bitwise l.s l.o l.k l.n l.names l.initial.buf l.start l.at l.i l.buf
