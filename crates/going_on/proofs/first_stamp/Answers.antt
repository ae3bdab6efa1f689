use Rattle.going_on.proofs.Checks.{absent-earlier}
use Rattle.going_on.proofs.first_stamp.Goals as goal

pub returns-in-None : goal.returns-in-None
returns-in-None c = absent-earlier _ _ _ c.old_stamp.ensures c.in-None.is
