use Rattle.templates.proofs.Pieces.{Listing}
use Rattle.templates.proofs.list.Given as goal

abbrev pub invariant-loop-i : goal.invariant-loop-i
invariant-loop-i l = Listing l.s l.o l.step l.t l.initial.buf l.start l.n l.k l._i l.at l.place l.buf
