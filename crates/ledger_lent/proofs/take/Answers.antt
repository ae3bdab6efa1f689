use Rattle.ledger_lent.proofs.Branches.{taken_is}
use Rattle.ledger_lent.proofs.take.Goals as goal

pub returns : goal.returns
returns c = (taken_is _ _ _ _ _ _ c.take-taken.ensures.value c.take-taken.ensures.r_after, c.take-taken.ensures.buffer_after)
