use Rattle.rules.proofs.Places.{Seeking}
use Rattle.streaming.specs.Inner.{default_broken}
use Rattle.streaming_descriptors.specs.Descriptors.{no_format}
use lib.ListN.{get_or}
use Rattle.streaming.proofs.first_default.Given as goal

abbrev pub invariant-loop-i : goal.invariant-loop-i
invariant-loop-i l = Seeking (λ j. default_broken (get_or l.formats j no_format)) l.n l.i
