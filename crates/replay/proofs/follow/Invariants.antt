use mathlib.Core.Path.{◌≡◌}
use Rattle.trace.specs.Inner.{good_with}
use Rattle.records.specs.Form.{size_of}
use Rattle.replay.specs.Inner.{replay_of}
use Rattle.replay.proofs.Records.{Following}
use Rattle.replay.proofs.follow.Given as goal

abbrev pub invariant-loop-record : goal.invariant-loop-record
invariant-loop-record l =
    (l.record-iterator.size ≡ size_of l.form)
    × Following l.form l.show (replay_of (good_with l.initial.rest l.initial.numbers) l.initial.counted) l.records l.initial.out l.start l.rest l.numbers l.counted l.at l.record-iterator.rest.now l.out
