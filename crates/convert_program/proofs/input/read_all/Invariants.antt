-- Each turn leaves the buffers as long as they were, and less than a record waiting.
use Rattle.std.proofs.Common.{◌≡◌, ◌<◌, length}
use Rattle.convert_program.proofs.input.read_all.Given as goal

abbrev pub invariant-loop : goal.invariant-loop
invariant-loop g l =
    (length l.piece ≡ length l.initial.piece) × (length l.input ≡ length l.initial.input) × (length l.out ≡ length l.initial.out) × (l.reader.have < 64)
