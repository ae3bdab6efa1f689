use Rattle.std.proofs.Common.{arith}
use borrow.Author.Tests.{ne_eqb}
use Rattle.rules.specs.IfElse.{if_else}
use Rattle.session_words.specs.Reading.{fault_in}
use Rattle.session_words.proofs.words.fault_in.Goals as goal

pub returns-in-0 : goal.returns-in-0
unfolding fault_in if_else
returns-in-0 c = rw c.in-0.is

pub returns-in-1 : goal.returns-in-1
unfolding fault_in if_else
returns-in-1 c = rw c.in-1.is

pub returns-in-2 : goal.returns-in-2
unfolding fault_in if_else
returns-in-2 c = rw c.in-2.is

pub returns-in-3 : goal.returns-in-3
unfolding fault_in if_else
returns-in-3 c = rw c.in-3.is

pub returns-in-4 : goal.returns-in-4
unfolding fault_in if_else
returns-in-4 c = rw c.in-4.is

pub returns-in-5 : goal.returns-in-5
unfolding fault_in if_else
returns-in-5 c = rw c.in-5.is

pub returns-in-6 : goal.returns-in-6
unfolding fault_in if_else
returns-in-6 c = rw c.in-6.is

pub returns-in_default : goal.returns-in_default
unfolding fault_in if_else
returns-in_default c = rw (ne_eqb c.args.x 0 (omega arith), ne_eqb c.args.x 1 (omega arith), ne_eqb c.args.x 2 (omega arith), ne_eqb c.args.x 3 (omega arith), ne_eqb c.args.x 4 (omega arith), ne_eqb c.args.x 5 (omega arith), ne_eqb c.args.x 6 (omega arith))
