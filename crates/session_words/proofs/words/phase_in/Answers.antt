use Rattle.std.proofs.Common.{arith}
use borrow.Author.Tests.{ne_eqb}
use Rattle.rules.specs.IfElse.{if_else}
use Rattle.session_words.specs.Reading.{phase_in}
use Rattle.session_words.proofs.words.phase_in.Goals as goal

pub returns-in-0 : goal.returns-in-0
unfolding phase_in if_else
returns-in-0 c = rw c.in-0.is

pub returns-in-1 : goal.returns-in-1
unfolding phase_in if_else
returns-in-1 c = rw c.in-1.is

pub returns-in_default : goal.returns-in_default
unfolding phase_in if_else
returns-in_default c = rw (ne_eqb c.args.x 0 (omega arith), ne_eqb c.args.x 1 (omega arith))
