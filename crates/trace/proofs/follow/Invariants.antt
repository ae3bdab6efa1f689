use mathlib.Core.Path.{◌≡◌}
use Rattle.records.specs.Form.{size_of}
use Rattle.trace.specs.Inner.{good_with}
use Rattle.trace.proofs.Runs.{Reading-on}
use Rattle.trace.proofs.follow.Given as goal

abbrev pub invariant-loop-record : goal.invariant-loop-record
invariant-loop-record l =
    (l.record-iterator.size ≡ size_of l.form) × Reading-on l.form (good_with l.initial.rest l.initial.numbers) l.records l.rest l.numbers l.record-iterator.rest.now
