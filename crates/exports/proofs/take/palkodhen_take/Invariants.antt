use Rattle.std.proofs.Common.{◌≡◌, length}
use Rattle.sizes.specs.declared.HeaderKind.TheVariants.{Old}
use Rattle.session.specs.Inner.{whole_of}
use Rattle.exports.specs.Taking.{opened}
use Rattle.exports.proofs.Rounds.{Going}
use Rattle.exports.proofs.take.palkodhen_take.Given as goal

abbrev pub invariant-loop-round : goal.invariant-loop-round
invariant-loop-round l =
    (length l.buffer ≡ length l.initial.buffer)
    × Going l.size l.transfers (opened (record { frame = l.frame; payload = l.payload; framing = l.framing; kind = Old }) l.initial.buffer) l.buffer (whole_of l.rest l.numbers) l._round 0

abbrev pub invariant-loop-k : goal.invariant-loop-k
invariant-loop-k l =
    (length l.buffer ≡ length l.fn.buffer)
    × Going l.size l.transfers (opened (record { frame = l.frame; payload = l.payload; framing = l.framing; kind = Old }) l.fn.buffer) l.buffer (whole_of l.rest l.numbers) l._round l.k
