use Rattle.std.proofs.Common.{◌≡◌, ◌<◌, length}
use Rattle.trace_cases.proofs.converted.all.Given as goal

abbrev pub invariant-loop-part : goal.invariant-loop-part
invariant-loop-part l =
    (l.part-iterator.size ≡ l.read) × (l.reader.have < 64) × (length l.piece ≡ length l.initial.piece) × (length l.out ≡ length l.initial.out)
