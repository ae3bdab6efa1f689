use native.Mathlib.Omega.{arith}
use Rattle.rules.proofs.Kept.{kept_rungs}
use Rattle.streaming_rules.specs.Rules.{kind_rows}
use Rattle.streaming_rules.proofs.Ladder.{differs, agrees}
use Rattle.streaming_descriptors.proofs.Subtypes.{frame-long}
use Rattle.streaming_rules.proofs.frame_rule.Goals as goal

pub returns-then-is_misplaced : goal.returns-then-is_misplaced
unfolding kind_rows
returns-then-is_misplaced c = search kept_rungs depth 9

pub bounds-s-at : goal.bounds-s-at
bounds-s-at c = omega (arith, frame-long c.args.format c.args.s.now c.args.at _ c.requires)

pub returns-then-wide : goal.returns-then-wide
unfolding kind_rows
returns-then-wide c = search (kept_rungs, differs) depth 10

pub returns-then-not-offered : goal.returns-then-not-offered
unfolding kind_rows
returns-then-not-offered c = search (kept_rungs, agrees) depth 11

pub is_untrue-requires : goal.is_untrue-requires
is_untrue-requires c = search frame-long

pub returns-then-is_untrue : goal.returns-then-is_untrue
unfolding kind_rows
returns-then-is_untrue c = search (kept_rungs, agrees) depth 12

pub is_line_wrong-requires : goal.is_line_wrong-requires
is_line_wrong-requires c = search frame-long

pub returns-then-is_line_wrong : goal.returns-then-is_line_wrong
unfolding kind_rows
returns-then-is_line_wrong c = search (kept_rungs, agrees) depth 13

pub returns-then-a-ge-FRAMES_MOST : goal.returns-then-a-ge-FRAMES_MOST
unfolding kind_rows
returns-then-a-ge-FRAMES_MOST c = search (kept_rungs, agrees) depth 14

pub returns : goal.returns
unfolding kind_rows
returns c = search (kept_rungs, agrees) depth 14
