use native.Mathlib.Omega.{arith}
use Rattle.sources.proofs.Places.{place-else}
use Rattle.control_rules.specs.Descriptors.{kind_of, source_place}
use borrow.Author.Rules.{rules}
use Rattle.sources.proofs.links.source_place.Goals as goal

pub returns-in-3 : goal.returns-in-3
unfolding kind_of source_place
returns-in-3 c = (rw c.in-3.is, search rules)

pub returns-in-4 : goal.returns-in-4
unfolding kind_of source_place
returns-in-4 c = (rw c.in-4.is, search rules)

pub returns-in-5 : goal.returns-in-5
unfolding kind_of source_place
returns-in-5 c = (rw c.in-5.is, search rules)

pub returns-in-6 : goal.returns-in-6
unfolding kind_of source_place
returns-in-6 c = (rw c.in-6.is, search rules)

pub returns-in-7 : goal.returns-in-7
unfolding kind_of source_place
returns-in-7 c = (rw c.in-7.is, search rules)

pub returns-in_default : goal.returns-in_default
returns-in_default c = (place-else c.args.kind (λ e. omega arith) (λ e. omega arith) (λ e. omega arith) (λ e. omega arith) (λ e. omega arith), search rules)
