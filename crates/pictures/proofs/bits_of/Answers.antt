use Rattle.rules.specs.IfElse.{if_else}
use Rattle.pictures.specs.Pictures.{bits_of}
use native.Mathlib.Omega.{arith}
use borrow.Author.Tests.{ne_eqb}
use Rattle.pictures.proofs.bits_of.Goals as goal

pub returns-in-1 : goal.returns-in-1
unfolding bits_of if_else
returns-in-1 c = rw c.in-1.is

pub returns-in-2 : goal.returns-in-2
unfolding bits_of if_else
returns-in-2 c = rw c.in-2.is

pub returns-in_default : goal.returns-in_default
unfolding bits_of if_else
returns-in_default c = rw (ne_eqb c.args.sort 1 (λ e. omega arith), ne_eqb c.args.sort 2 (λ e. omega arith))
