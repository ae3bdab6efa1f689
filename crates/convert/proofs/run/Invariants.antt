use Rattle.std.proofs.Common.{◌≡◌}
use Rattle.convert.proofs.Branches.{Ran}
use Rattle.convert.proofs.run.Given as goal

abbrev pub invariant-loop-record : goal.invariant-loop-record
invariant-loop-record l = (l.record-iterator.size ≡ 64) × Ran l.initial.converter l.part l.initial.out l.start l.out l.converter l.at l.record-iterator.rest.now
