use Rattle.configuration.specs.Answer.{entry_at}
use Rattle.interfaces.specs.Inner.{place_of}
use lib.Dec.{eqb}
use Rattle.rules.proofs.Places.{Seeking}
use Rattle.configuration.proofs.entries_named.Given as goal

abbrev pub invariant-loop-j : goal.invariant-loop-j
invariant-loop-j l = Seeking (λ i. eqb (place_of l.streams l.count (entry_at l.block i)) l.count) l.n l.j
