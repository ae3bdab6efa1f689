use Rattle.std.proofs.Common.{◌≡◌, ℕ, length, arith, rules, subst}
use Rattle.sizes.specs.declared.HeaderKind.TheVariants.{Old}
use Rattle.session.specs.Inner.{whole_of}
use Rattle.exports.specs.Taking.{opened}
use Rattle.exports.proofs.Rounds.{Going, going_start, going_more, going-round, all-taken, no_size, too_short}
use Rattle.exports.proofs.take.palkodhen_take.Goals as goal

pub returns-then-size-eq0 : goal.returns-then-size-eq0
returns-then-size-eq0 c = let both = no_size _ _ _ _ _ c.if-size-eq0.true in record { value = both.0; buffer_after = both.1 }

pub returns-then-transfers-size : goal.returns-then-transfers-size
returns-then-transfers-size c = let both = too_short _ _ _ _ _ c.if-transfers-size.true in record { value = both.0; buffer_after = both.1 }

pub loop-round-init : goal.loop-round-init
loop-round-init c = (search rules, going_start _ _ _ _ _ c.open-start.ensures (search rules))

pub loop-k-init : goal.loop-k-init
loop-k-init c = c.loop-round.invariant

pub take-taken-requires : goal.take-taken-requires
take-taken-requires c = c.loop-k.invariant.1.sized

pub loop-k-preserved : goal.loop-k-preserved
loop-k-preserved c =
    let x = c.take-taken in
    let o = c.loop-k in
    let q : length x.new.buffer ≡ length o.buffer = search rules in
    (omega (arith, q, o.invariant.0), going_more _ _ _ _ _ _ _ o.invariant.1 _ x.result _ x.ensures.m_after x.ensures.buffer_after)

pub loop-round-preserved : goal.loop-round-preserved
loop-round-preserved c = (c.loop-k.invariant.0, going-round _ _ _ _ _ _ _ c.loop-k.invariant.1 (omega arith))

pub returns : goal.returns
returns c =
    let done : c.loop-round._round ≡ c.args.times = omega arith in
    let g = subst (λ (n : ℕ). Going c.args.size c.args.transfers.now (opened (record { frame = c.args.frame; payload = c.args.payload; framing = c.args.framing; kind = Old }) c.args.buffer.now) c.loop-round.buffer (whole_of c.loop-round.rest c.loop-round.numbers) n 0) done c.loop-round.invariant.1 in
    let both = all-taken _ _ _ _ _ _ _ g c.bytes.ensures in
    record { value = both.0; buffer_after = both.1 }
