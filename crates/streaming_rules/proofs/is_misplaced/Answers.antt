use borrow.Author.Tests.{eq-eqb}
use Rattle.streaming_rules.specs.Rules.{misplaced}
use Rattle.streaming_rules.proofs.Ladder.{some-format}
use Rattle.streaming_rules.proofs.is_misplaced.Goals as goal

pub returns-then-a-eq0 : goal.returns-then-a-eq0
unfolding misplaced
returns-then-a-eq0 c = rw (eq-eqb _ _ c.if-a-eq0.true)

pub returns-else-a-eq0 : goal.returns-else-a-eq0
returns-else-a-eq0 c = search some-format
