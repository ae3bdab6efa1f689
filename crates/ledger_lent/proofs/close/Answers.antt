use Rattle.ledger_lent.proofs.Branches.{closed_is}
use Rattle.ledger_lent.proofs.close.Goals as goal

pub returns : goal.returns
returns c = closed_is _ _ _ _ c.close-closed.ensures.value c.close-closed.ensures.r_after
