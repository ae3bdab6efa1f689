use Rattle.rules.proofs.Places.{Seeking}
use Rattle.host_probe.specs.Words.{differs}
use Rattle.host_probe.proofs.wide_at.Given as goal

abbrev pub invariant-loop-i : goal.invariant-loop-i
invariant-loop-i l = Seeking (differs l.from l.words) 29 l.i
