use Prim.Native.Nat.{◌-◌}
use lib.ListN.{length}
use Rattle.configuration.proofs.Reading.{Judging}
use Rattle.configuration.proofs.streams_verdict.Given as goal

abbrev pub invariant-loop-at : goal.invariant-loop-at
invariant-loop-at l = Judging l.s l.table l.at

abbrev pub decreases-loop-at : goal.decreases-loop-at
decreases-loop-at l = length l.s - l.at
