use native.Mathlib.Omega.{arith}
use borrow.Author.Tests.{ne_eqb}
use Rattle.rules.specs.IfElse.{if_else}
use Rattle.host_probe.specs.Probe.{revision_in}
use Rattle.host_probe.proofs.revision_of.Goals as goal

pub returns-in-256 : goal.returns-in-256
unfolding revision_in if_else
returns-in-256 c = rw c.in-256.is

pub returns-in-272 : goal.returns-in-272
unfolding revision_in if_else
returns-in-272 c = rw c.in-272.is

pub returns-in-336 : goal.returns-in-336
unfolding revision_in if_else
returns-in-336 c = rw c.in-336.is

pub returns-in_default : goal.returns-in_default
unfolding revision_in if_else
returns-in_default c = rw (ne_eqb c.args.n 256 (λ e. omega arith), ne_eqb c.args.n 272 (λ e. omega arith), ne_eqb c.args.n 336 (λ e. omega arith))
