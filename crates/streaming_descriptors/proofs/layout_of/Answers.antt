use Rattle.streaming_descriptors.specs.Descriptors.{format_layout}
use native.Mathlib.Omega.{arith}
use Rattle.rules.specs.IfElse.{if_else}
use Rattle.streaming_descriptors.proofs.Subtypes.{no-layout}
use Rattle.streaming_descriptors.proofs.layout_of.Goals as goal

pub returns-in-4 : goal.returns-in-4
unfolding format_layout if_else
returns-in-4 c = rw c.in-4.is

pub returns-in-6 : goal.returns-in-6
unfolding format_layout if_else
returns-in-6 c = rw c.in-6.is

pub returns-in-16 : goal.returns-in-16
unfolding format_layout if_else
returns-in-16 c = rw c.in-16.is

pub returns-in_default : goal.returns-in_default
returns-in_default c = no-layout c.args.format (λ e. omega arith) (λ e. omega arith) (λ e. omega arith)
