use borrow.Author.Tests.{eq-eqb}
use Rattle.streaming.specs.Inner.{default_broken}
use Rattle.streaming.proofs.Late.{default-some}
use Rattle.streaming.proofs.default_broken.Goals as goal

pub returns-then-f-eq0 : goal.returns-then-f-eq0
unfolding default_broken
returns-then-f-eq0 c = rw (eq-eqb _ _ c.if-f-eq0.true)

pub returns-else-f-eq0 : goal.returns-else-f-eq0
returns-else-f-eq0 c = search default-some
