use native.Mathlib.Omega.{arith}
use Rattle.entities.proofs.Finding.{length-of}
use Rattle.control_map.proofs.Mapping.{in_table, map-nothing, map_at}
use Rattle.control_map.proofs.find_controls.Goals as goal

pub offset_bounds-table-i : goal.offset_bounds-table-i
offset_bounds-table-i c = omega (arith, in_table c.args.table _ _ _ (search length-of) c.place_among.ensures c.in-Some.is)

pub bounds-table-i : goal.bounds-table-i
bounds-table-i c = in_table c.args.table _ _ _ (search length-of) c.place_among.ensures c.in-Some.is

pub returns-in-None : goal.returns-in-None
returns-in-None c = map-nothing _ _ c.requires _ _ c.place_among.ensures _ c.in-None.is c.refused.ensures

pub returns-in-Some : goal.returns-in-Some
returns-in-Some c = map_at _ _ c.requires _ _ c.place_among.ensures _ c.in-Some.is _ c.controls_of.ensures
