use Prim.Native.Nat.{◌-◌}
use lib.ListN.{length}
use Rattle.alternate_settings.proofs.Going.{Sifting}
use Rattle.alternate_settings.proofs.fewest.Given as goal

abbrev pub invariant-loop-at : goal.invariant-loop-at
invariant-loop-at l = Sifting l.s l.interface l.endpoint l.payload l.best l.at

abbrev pub decreases-loop-at : goal.decreases-loop-at
decreases-loop-at l = length l.s - l.at
