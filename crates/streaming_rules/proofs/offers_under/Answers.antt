use native.Mathlib.Omega.{arith}
use Rattle.streaming_rules.proofs.Ladder.{offers-is}
use Rattle.streaming_descriptors.proofs.Subtypes.{frame-long, span-room, k-in, k-is}
use Rattle.streaming_rules.proofs.offers_under.Goals as goal

pub overflow_add-place : goal.overflow_add-place
overflow_add-place c = omega (arith, k-in _ _ c.layout_of-l.ensures, frame-long c.args.format c.args.s.now c.args.at _ c.requires)

pub bounds-s-place : goal.bounds-s-place
bounds-s-place c = omega (arith, k-in _ _ c.layout_of-l.ensures, frame-long c.args.format c.args.s.now c.args.at _ c.requires)

pub offers-requires : goal.offers-requires
offers-requires c = search (span-room, k-is)

pub returns : goal.returns
returns c = search (offers-is, k-is)
