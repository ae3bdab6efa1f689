use borrow.Author.Tests.{eq-eqb}
use Rattle.probe_check.specs.Answer.{format_missing}
use Rattle.probe_check.proofs.Checking.{number-some}
use Rattle.probe_check.proofs.format_missing.Goals as goal

pub returns-then-number-eq0 : goal.returns-then-number-eq0
unfolding format_missing
returns-then-number-eq0 c = rw (eq-eqb _ _ c.if-number-eq0.true)

pub returns-else-number-eq0 : goal.returns-else-number-eq0
returns-else-number-eq0 c = search number-some
