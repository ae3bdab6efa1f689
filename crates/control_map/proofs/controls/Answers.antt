use Rattle.control_map.proofs.Mapping.{accepted-table, map-own}
use Rattle.control_map.proofs.controls.Goals as goal

pub find_controls-requires : goal.find_controls-requires
find_controls-requires c = accepted-table _ _ c.read-c.ensures c.in-Ok.is

pub returns-in-Err : goal.returns-in-Err
returns-in-Err c = map-own _ _ _ c.read-c.ensures _ _ c.in-Err.is _ c.refused.ensures
