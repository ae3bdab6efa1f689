use borrow.Author.Tests.{ne_eqb}
use Rattle.streaming.specs.Answer.{is_output}
use Rattle.streaming.proofs.Links.{output-is}
use Rattle.streaming.proofs.is_output.Goals as goal

pub returns-then-e-eq-OUTPUT_TERMINAL : goal.returns-then-e-eq-OUTPUT_TERMINAL
returns-then-e-eq-OUTPUT_TERMINAL c = search output-is

pub returns-else-e-eq-OUTPUT_TERMINAL : goal.returns-else-e-eq-OUTPUT_TERMINAL
unfolding is_output
returns-else-e-eq-OUTPUT_TERMINAL c = rw (ne_eqb _ _ c.if-e-eq-OUTPUT_TERMINAL.false)
