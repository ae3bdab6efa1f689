use Prim.Native.Nat.{◌-◌}
use lib.ListN.{length}
use Rattle.alternate_settings.proofs.Going.{Kth}
use Rattle.alternate_settings.proofs.kth.Given as goal

abbrev pub invariant-loop-at : goal.invariant-loop-at
invariant-loop-at l = Kth l.s l.interface l.endpoint l.k l.at l.left

abbrev pub decreases-loop-at : goal.decreases-loop-at
decreases-loop-at l = length l.s - l.at
