use Rattle.rules.proofs.Kept.{kept_rungs}
use Rattle.streaming_rules.specs.Rules.{kind_rows}
use Rattle.blocks.proofs.Tests.{differs, agrees}
use Rattle.streaming_rules.proofs.Ladder.{or_no}
use Rattle.streaming_descriptors.proofs.Subtypes.{fits}
use native.Mathlib.Omega.{arith}
use Rattle.streaming_rules.proofs.format_rule.Goals as goal

pub bounds-s-at : goal.bounds-s-at
bounds-s-at c = let w = (fits c.args.format).numbered in omega arith

pub returns-then-wide-a : goal.returns-then-wide-a
unfolding kind_rows
returns-then-wide-a c = search (kept_rungs, differs) depth 8

pub returns-then-is_flag_wrong : goal.returns-then-is_flag_wrong
unfolding kind_rows
returns-then-is_flag_wrong c = search (kept_rungs, agrees, or_no) depth 11

pub returns-then-a-ge-FORMATS_MOST : goal.returns-then-a-ge-FORMATS_MOST
unfolding kind_rows
returns-then-a-ge-FORMATS_MOST c = search (kept_rungs, agrees, or_no) depth 12

pub returns : goal.returns
unfolding kind_rows
returns c = search (kept_rungs, agrees, or_no) depth 12
