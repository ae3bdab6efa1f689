use Rattle.text.proofs.Texts.{none}
use native.Mathlib.Omega.{arith}
use Rattle.configuration_text.specs.Texts.{stream_text, stream_most}
use Rattle.interfaces.specs.Limits.{no_stream}
use Rattle.entities.proofs.Finding.{length-of}
use Rattle.configuration_text.proofs.Lines.{stream-more, all-used, all-places}
use Rattle.configuration_text.proofs.streams.Goals as goal

pub loop-i-init : goal.loop-i-init
loop-i-init c = record { table = search length-of; below = omega arith; printed = record { within = omega arith; room = omega arith; put = none _ _ (omega arith) } }

pub returns-then-n-i : goal.returns-then-n-i
returns-then-n-i c = all-used (stream_text c.args.s.now) no_stream _ stream_most _ _ c.if-n-i.true c.loop-i.invariant

pub stream-at-requires : goal.stream-at-requires
stream-at-requires c = let p = c.loop-i.invariant.printed in omega (arith, p.room, p.put.size)

pub loop-i-preserved : goal.loop-i-preserved
loop-i-preserved c = stream-more (stream_text c.args.s.now) no_stream _ stream_most _ _ (omega arith) (omega arith) c.loop-i.invariant c.stream-at.ensures.put c.stream-at.ensures.upper_bound

pub returns : goal.returns
returns c = all-places (stream_text c.args.s.now) no_stream _ stream_most _ _ (omega arith) c.loop-i.invariant
