use mathlib.Core.Path.{sym, ◌∙◌}
use borrow.Author.Tests.{le-ltb}
use native.Mathlib.Omega.{arith}
use Rattle.rules.proofs.Kept.{kept_rungs, row-on, ok-kept, err-kept}
use Rattle.streaming_rules.specs.Rules.{head_rows}
use Rattle.streaming_rules.proofs.head_rule.Goals as goal

pub returns-then-entities-gt-ENTITIES_MOST : goal.returns-then-entities-gt-ENTITIES_MOST
unfolding head_rows
returns-then-entities-gt-ENTITIES_MOST c = search kept_rungs

pub returns-in-0 : goal.returns-in-0
unfolding head_rows
returns-in-0 c = row-on _ 20 _ _ (le-ltb _ _ c.if-entities-gt-ENTITIES_MOST.false) (ok-kept _ (sym c.in-0.is ∙ c.whole_rule.ensures))

pub returns-in_default : goal.returns-in_default
unfolding head_rows
returns-in_default c = row-on _ 20 _ _ (le-ltb _ _ c.if-entities-gt-ENTITIES_MOST.false) (err-kept _ _ (omega arith) c.whole_rule.ensures)
