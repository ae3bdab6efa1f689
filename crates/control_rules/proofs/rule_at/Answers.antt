use Rattle.rules.proofs.Kept.{kept_rungs}
use Rattle.blocks.proofs.Right.{sub-inside}
use Rattle.control_rules.specs.Rules.{rows_in}
use Rattle.control_rules.proofs.Ladder.{placed-long, placed-inside}
use borrow.Author.Rules.{rules}
use Rattle.control_rules.proofs.rule_at.Goals as goal

pub returns-then-length_broken : goal.returns-then-length_broken
unfolding rows_in
returns-then-length_broken c = search kept_rungs

pub type_broken-requires : goal.type_broken-requires
type_broken-requires c = search sub-inside

pub returns-then-type_broken : goal.returns-then-type_broken
unfolding rows_in
returns-then-type_broken c = search kept_rungs depth 8

pub bounds-s-at : goal.bounds-s-at
bounds-s-at c = search sub-inside

pub kind_rule-requires : goal.kind_rule-requires
kind_rule-requires c = search (placed-long, placed-inside, rules)

pub returns : goal.returns
unfolding rows_in
returns c = rw (← c.known_as-sub.ensures) (search kept_rungs depth 9)
