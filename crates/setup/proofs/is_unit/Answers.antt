use native.Mathlib.Omega.{arith}
use Rattle.entities.proofs.Finding.{length-of}
use Rattle.control_map.proofs.Mapping.{in_table}
use Rattle.setup.proofs.Units.{unit-nothing, unit-found}
use Rattle.setup.proofs.is_unit.Goals as goal

pub offset_bounds-table-i : goal.offset_bounds-table-i
offset_bounds-table-i c = omega (arith, in_table c.args.table _ _ _ (search length-of) c.find_among.ensures c.in-Some.is)

pub bounds-table-i : goal.bounds-table-i
bounds-table-i c = in_table c.args.table _ _ _ (search length-of) c.find_among.ensures c.in-Some.is

pub returns-in-None : goal.returns-in-None
returns-in-None c = unit-nothing _ _ _ c.find_among.ensures c.in-None.is

pub returns-in-Some : goal.returns-in-Some
returns-in-Some c = unit-found _ _ _ _ c.find_among.ensures c.in-Some.is
