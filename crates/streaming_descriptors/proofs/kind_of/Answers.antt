use Rattle.streaming_descriptors.proofs.Subtypes.{within, below, above}
use Rattle.streaming_descriptors.specs.Descriptors.{kind_of}
use Rattle.rules.specs.IfElse.{if_else}
use native.Mathlib.Omega.{arith}
use mathlib.Core.Logic.{⊎_elim}
use Rattle.streaming_descriptors.proofs.kind_of.Goals as goal

pub returns-in-1 : goal.returns-in-1
unfolding kind_of if_else
returns-in-1 c = rw c.in-1.is

pub returns-in-4 : goal.returns-in-4
unfolding kind_of if_else
returns-in-4 c = rw c.in-4.is

pub returns-in-5 : goal.returns-in-5
unfolding kind_of if_else
returns-in-5 c = rw c.in-5.is

pub returns-in-6 : goal.returns-in-6
unfolding kind_of if_else
returns-in-6 c = rw c.in-6.is

pub returns-in-7 : goal.returns-in-7
unfolding kind_of if_else
returns-in-7 c = rw c.in-7.is

pub returns-in-16 : goal.returns-in-16
unfolding kind_of if_else
returns-in-16 c = rw c.in-16.is

pub returns-in-17 : goal.returns-in-17
unfolding kind_of if_else
returns-in-17 c = rw c.in-17.is

pub returns-in-10 : goal.returns-in-10
unfolding kind_of if_else
returns-in-10 c = ⊎_elim (λ e. rw e) (λ e. rw e) c.in-10.is

pub returns-in-18-to-24 : goal.returns-in-18-to-24
returns-in-18-to-24 c = within c.args.sub (λ e. omega arith) (λ e. omega arith) (λ e. omega arith) (λ e. omega arith) (λ e. omega arith) (λ e. omega arith) (λ e. omega arith) (λ e. grind arith) (λ e. grind arith) (omega arith) (omega arith)

pub returns-in_default : goal.returns-in_default
returns-in_default c = below c.args.sub (λ e. omega arith) (λ e. omega arith) (λ e. omega arith) (λ e. omega arith) (λ e. omega arith) (λ e. omega arith) (λ e. omega arith) (λ e. grind arith) (λ e. grind arith) (omega arith)

pub returns-in_default-2 : goal.returns-in_default-2
returns-in_default-2 c = above c.args.sub (λ e. omega arith) (λ e. omega arith) (λ e. omega arith) (λ e. omega arith) (λ e. omega arith) (λ e. omega arith) (λ e. omega arith) (λ e. grind arith) (λ e. grind arith) (omega arith)
