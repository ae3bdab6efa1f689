use Prim.Native.Nat.{◌-◌}
use lib.ListN.{length}
use Rattle.interfaces.proofs.Searching.{Seeks}
use Rattle.interfaces.proofs.next.Given as goal

abbrev pub invariant-loop-i : goal.invariant-loop-i
invariant-loop-i l = Seeks l.what l.s l.at l.i

abbrev pub decreases-loop-i : goal.decreases-loop-i
decreases-loop-i l = length l.s - l.i
