use Rattle.rules.proofs.Places.{Seeking}
use Rattle.streaming.specs.Inner.{count_broken}
use Rattle.streaming_descriptors.specs.Descriptors.{no_format}
use Prim.Native.Nat.{◌+◌}
use lib.ListN.{get_or}
use Rattle.streaming.proofs.first_count.Given as goal

abbrev pub invariant-loop-i : goal.invariant-loop-i
invariant-loop-i l = Seeking (λ j. count_broken (get_or l.formats j no_format) (get_or l.counts (j + 1) 0)) l.n l.i
