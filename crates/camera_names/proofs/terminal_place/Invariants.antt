use lib.Dec.{eqb}
use lib.ListN.{get_or}
use Rattle.rules.proofs.Places.{Seeking}
use Rattle.camera_names.proofs.terminal_place.Given as goal

abbrev pub invariant-loop-i : goal.invariant-loop-i
invariant-loop-i l = Seeking (λ j. eqb (get_or l.types j 0) l.number) 12 l.i
