use Prim.Native.Nat.{◌-◌}
use lib.ListN.{length}
use Rattle.control.proofs.Walking.{Reading}
use Rattle.control.proofs.walk.Given as goal

abbrev pub invariant-loop-at : goal.invariant-loop-at
invariant-loop-at l = Reading l.s l.table l.marks l.at

abbrev pub decreases-loop-at : goal.decreases-loop-at
decreases-loop-at l = length l.s - l.at
