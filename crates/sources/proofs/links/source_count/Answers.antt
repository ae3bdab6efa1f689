use native.Mathlib.Omega.{arith}
use Rattle.sources.proofs.Places.{count-else}
use Rattle.control_rules.specs.Descriptors.{kind_of, source_count}
use mathlib.Core.Path.{◌∙◌}
use borrow.Author.Rules.{rules}
use Rattle.sources.proofs.links.source_count.Goals as goal

pub returns-in-3 : goal.returns-in-3
unfolding kind_of source_count
returns-in-3 c = (rw c.in-3.is, search rules)

pub returns-in-4 : goal.returns-in-4
unfolding kind_of source_count
returns-in-4 c = (c.wide.ensures.0 ∙ (rw c.in-4.is c.byte_at.ensures), c.wide.ensures.1)

pub returns-in-5 : goal.returns-in-5
unfolding kind_of source_count
returns-in-5 c = (rw c.in-5.is, search rules)

pub returns-in-6 : goal.returns-in-6
unfolding kind_of source_count
returns-in-6 c = (c.wide-in-6.ensures.0 ∙ (rw c.in-6.is c.byte_at-in-6.ensures), c.wide-in-6.ensures.1)

pub returns-in-7 : goal.returns-in-7
unfolding kind_of source_count
returns-in-7 c = (rw c.in-7.is, search rules)

pub returns-in_default : goal.returns-in_default
returns-in_default c = (count-else _ _ c.args.kind (λ e. omega arith) (λ e. omega arith) (λ e. omega arith) (λ e. omega arith) (λ e. omega arith), search rules)
