use borrow.Author.Tests.{ne_eqb}
use Rattle.probe_check.specs.Answer.{has_number}
use Rattle.probe_check.proofs.Checking.{same_format}
use Rattle.probe_check.proofs.has_number.Goals as goal

pub returns-then-f-format : goal.returns-then-f-format
returns-then-f-format c = search same_format

pub returns-else-f-format : goal.returns-else-f-format
unfolding has_number
returns-else-f-format c = rw (ne_eqb _ _ c.if-f-format.false)
