use Rattle.control_rules.specs.Descriptors.{kind_of, shape}
use Rattle.control_rules.proofs.Shapes.{kind-unknown, unit-long}
use borrow.Author.Rules.{rules}
use native.Mathlib.Omega.{arith}
use Rattle.control_rules.proofs.shape.right.Goals as goal

pub sized-requires : goal.sized-requires
sized-requires c = search (unit-long, rules)

pub returns-in-1 : goal.returns-in-1
unfolding kind_of shape
returns-in-1 c = rw c.in-1.is c.counted.ensures

pub returns-in-2 : goal.returns-in-2
unfolding kind_of shape
returns-in-2 c = rw c.in-2.is c.input.ensures

pub returns-in-3 : goal.returns-in-3
unfolding kind_of shape
returns-in-3 c = rw (c.in-3.is, c.requires.0)

pub returns-in-4 : goal.returns-in-4
unfolding kind_of shape
returns-in-4 c = rw c.in-4.is c.counted-in-4.ensures

pub returns-in-5 : goal.returns-in-5
unfolding kind_of shape
returns-in-5 c = rw (c.in-5.is, ← c.says_of.ensures) c.sized.ensures

pub returns-in-6 : goal.returns-in-6
unfolding kind_of shape
returns-in-6 c = rw c.in-6.is c.extension.ensures

pub returns-in-7 : goal.returns-in-7
unfolding kind_of shape
returns-in-7 c = rw c.in-7.is c.fixed.ensures

pub returns-in_default : goal.returns-in_default
unfolding kind_of shape
returns-in_default c = rw (kind-unknown c.args.sub (λ e. omega arith) (λ e. omega arith) (λ e. omega arith) (λ e. omega arith) (λ e. omega arith) (λ e. omega arith) (λ e. omega arith))
