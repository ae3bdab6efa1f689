use Rattle.control.proofs.Walking.{head-bad, head-right}
use Rattle.control.proofs.read.Goals as goal

pub returns-in-Err : goal.returns-in-Err
returns-in-Err c = head-bad _ _ _ c.in-Err.ensures c.refused.ensures

pub walk-requires : goal.walk-requires
walk-requires c = head-right _ _ c.in_default.ensures
