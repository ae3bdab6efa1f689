use Rattle.templates.proofs.Pieces.{Rendering}
use Prim.Native.Nat.{◌-◌}
use lib.ListN.{length}
use Rattle.templates.proofs.render.Given as goal

abbrev pub invariant-loop-i : goal.invariant-loop-i
invariant-loop-i l = Rendering l.s l.o l.k l.t l.initial.buf l.start l.i l.at l.buf

abbrev pub decreases-loop-i : goal.decreases-loop-i
decreases-loop-i l = length l.t - l.i
