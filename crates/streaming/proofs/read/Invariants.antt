use Rattle.streaming.proofs.Going.{Going}
use Prim.Native.Nat.{◌-◌}
use lib.ListN.{length}
use Rattle.streaming.proofs.read.Given as goal

abbrev pub invariant-loop-at : goal.invariant-loop-at
invariant-loop-at l = Going l.linked l.block l.formats l.frames l.counts l.f l.n l.last l.at

abbrev pub decreases-loop-at : goal.decreases-loop-at
decreases-loop-at l = length l.block - l.at
