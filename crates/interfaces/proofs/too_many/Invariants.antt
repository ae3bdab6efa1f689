use Prim.Native.Nat.{◌-◌}
use lib.ListN.{length}
use Rattle.interfaces.proofs.Counting.{Counting}
use Rattle.interfaces.proofs.too_many.Given as goal

abbrev pub invariant-loop-at : goal.invariant-loop-at
invariant-loop-at l = Counting l.s l.counts l.listed l.at

abbrev pub decreases-loop-at : goal.decreases-loop-at
decreases-loop-at l = length l.s - l.at
