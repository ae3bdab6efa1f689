use Rattle.rules.proofs.Kept.{kept_rungs}
use Rattle.control_rules.specs.Rules.{kind_rows}
use Rattle.control_rules.proofs.Ladder.{shaped, len-in}
use borrow.Author.Rules.{rules}
use Rattle.control_rules.proofs.kind_rule.Goals as goal

pub right-shaped-requires : goal.right-shaped-requires
right-shaped-requires c = search (len-in, rules)

pub returns-then-not-shaped : goal.returns-then-not-shaped
unfolding kind_rows
returns-then-not-shaped c = search kept_rungs depth 8

pub revision_right-known-requires : goal.revision_right-known-requires
revision_right-known-requires c = search shaped

pub returns-then-not-known : goal.returns-then-not-known
unfolding kind_rows
returns-then-not-known c = search kept_rungs depth 8

pub entity_rule-requires : goal.entity_rule-requires
entity_rule-requires c = search shaped

pub returns : goal.returns
unfolding kind_rows
returns c = search kept_rungs depth 9
