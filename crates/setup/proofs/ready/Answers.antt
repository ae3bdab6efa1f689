use Rattle.control_map.proofs.Mapping.{accepted-table}
use Rattle.setup.proofs.Deciding.{ready-own}
use Rattle.setup.proofs.ready.Goals as goal

pub ready_in-requires : goal.ready_in-requires
ready_in-requires c = accepted-table _ _ c.read-c.ensures c.in-Ok.is

pub returns-in-Err : goal.returns-in-Err
returns-in-Err c = ready-own _ _ _ _ c.read-c.ensures _ _ c.in-Err.is
