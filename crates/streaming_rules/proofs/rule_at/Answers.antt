use native.Mathlib.Omega.{arith}
use Rattle.rules.proofs.Kept.{err-kept}
use Rattle.blocks.proofs.Right.{sub-inside, len-inside}
use Rattle.streaming_rules.proofs.Ladder.{rule-25, rule-26, rule-26', rule-27, rule-28, rule-on, shaped, lies}
use Rattle.streaming_rules.proofs.rule_at.Goals as goal

pub returns-then-length_broken : goal.returns-then-length_broken
returns-then-length_broken c = search (err-kept, rule-25, arith)

pub type_broken-requires : goal.type_broken-requires
type_broken-requires c = search sub-inside

pub returns-then-type_broken : goal.returns-then-type_broken
returns-then-type_broken c = search (err-kept, rule-26, arith)

pub bounds-s-at : goal.bounds-s-at
bounds-s-at c = search sub-inside

pub returns-then-sub-eq-OUTPUT_HEADER : goal.returns-then-sub-eq-OUTPUT_HEADER
returns-then-sub-eq-OUTPUT_HEADER c = search (err-kept, rule-26', arith)

pub returns-then-is_unread : goal.returns-then-is_unread
returns-then-is_unread c = search (err-kept, rule-27, arith)

pub shape_ok-shaped-requires : goal.shape_ok-shaped-requires
shape_ok-shaped-requires c = search len-inside

pub returns-then-not-shaped : goal.returns-then-not-shaped
returns-then-not-shaped c = search (err-kept, rule-28, arith)

pub kind_rule-requires : goal.kind_rule-requires
kind_rule-requires c = search (shaped, lies)

pub returns : goal.returns
returns c = search rule-on
