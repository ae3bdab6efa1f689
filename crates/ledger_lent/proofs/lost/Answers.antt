use Rattle.ledger_lent.proofs.Branches.{reported-is}
use Rattle.ledger_lent.proofs.lost.Goals as goal

pub returns : goal.returns
returns c = reported-is _ _ _ _ c.lost-reported.ensures.value c.lost-reported.ensures.r_after
