use Prim.Native.Nat.{◌-◌}
use lib.ListN.{length}
use Rattle.interfaces.proofs.Listing.{Listing}
use Rattle.interfaces.proofs.listed.Given as goal

abbrev pub invariant-loop-at : goal.invariant-loop-at
invariant-loop-at l = Listing l.s l.streams l.count l.at

abbrev pub decreases-loop-at : goal.decreases-loop-at
decreases-loop-at l = length l.s - l.at
