use Rattle.interfaces.specs.Limits.{no_stream}
use lib.Dec.{eqb}
use lib.ListN.{get_or}
use Rattle.rules.proofs.Places.{Seeking}
use Rattle.interfaces.proofs.place_of.Given as goal

abbrev pub invariant-loop-i : goal.invariant-loop-i
invariant-loop-i l = Seeking (λ j. eqb (get_or l.streams j no_stream).interface l.number) l.count l.i
