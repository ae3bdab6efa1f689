use native.Mathlib.Omega.{arith}
use Rattle.streaming_rules.proofs.Ladder.{default-is}
use Rattle.streaming_descriptors.proofs.Subtypes.{frame-long, interval-in}
use Rattle.streaming_rules.proofs.default_offered.Goals as goal

pub overflow_add-place : goal.overflow_add-place
overflow_add-place c = omega (arith, interval-in _ _ c.layout_of-l.ensures, frame-long c.args.format c.args.s.now c.args.at _ c.requires)

pub le32-requires : goal.le32-requires
le32-requires c = omega (arith, interval-in _ _ c.layout_of-l.ensures, frame-long c.args.format c.args.s.now c.args.at _ c.requires)

pub returns : goal.returns
returns c = search default-is
