use Rattle.std.proofs.Common.{◌≡◌, ◌<◌, length}
use Rattle.records.specs.Form.{size_of}
use Rattle.trace_cases.proofs.shown.all.Given as goal

abbrev pub invariant-loop-part : goal.invariant-loop-part
invariant-loop-part l =
    (l.part-iterator.size ≡ l.read) × (l.reader.have < size_of l.form) × (length l.piece ≡ length l.initial.piece) × (length l.out ≡ length l.initial.out)
