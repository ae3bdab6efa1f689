use borrow.Author.Tests.{ne_eqb}
use native.Mathlib.Omega.{arith}
use Rattle.streaming_rules.specs.Rules.{flag_wrong}
use Rattle.streaming_rules.proofs.Ladder.{flag_is, flag-in}
use Rattle.streaming_rules.proofs.is_flag_wrong.Goals as goal

pub bounds-s-at : goal.bounds-s-at
bounds-s-at c = let w = flag-in c.args.format c.args.s.now c.args.at _ c.if-format-eq-FRAME_BASED.true c.requires in omega arith

pub returns-then-format-eq-FRAME_BASED : goal.returns-then-format-eq-FRAME_BASED
returns-then-format-eq-FRAME_BASED c = search flag_is

pub returns-else-format-eq-FRAME_BASED : goal.returns-else-format-eq-FRAME_BASED
unfolding flag_wrong
returns-else-format-eq-FRAME_BASED c = rw (ne_eqb _ _ c.if-format-eq-FRAME_BASED.false)
