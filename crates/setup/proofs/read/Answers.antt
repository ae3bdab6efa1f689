use Rattle.control_map.proofs.Mapping.{accepted-table}
use Rattle.setup.proofs.Deciding.{read-own}
use Rattle.setup.proofs.read.Goals as goal

pub read_in-requires : goal.read_in-requires
read_in-requires c = accepted-table _ _ c.read-c.ensures c.in-Ok.is

pub returns-in-Err : goal.returns-in-Err
returns-in-Err c = read-own _ _ _ _ c.read-c.ensures _ _ c.in-Err.is
