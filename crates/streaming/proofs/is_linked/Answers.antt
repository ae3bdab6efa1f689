use Rattle.streaming.proofs.Links.{found_inside, linked-none, linked-at}
use Rattle.entities.specs.Table.{entities_most}
use Rattle.entities.proofs.Finding.{length-of}
use native.Mathlib.Omega.{arith}
use Rattle.streaming.proofs.is_linked.Goals as goal

pub offset_bounds-table-i : goal.offset_bounds-table-i
offset_bounds-table-i c = omega
    (arith, found_inside c.args.table _ _ entities_most _ (search length-of) c.find.ensures c.in-Some.is)

pub bounds-table-i : goal.bounds-table-i
bounds-table-i c = found_inside c.args.table _ _ entities_most _ (search length-of) c.find.ensures c.in-Some.is

pub returns-in-Some : goal.returns-in-Some
returns-in-Some c = linked-at _ _ _ _ _ c.find.ensures c.in-Some.is c.is_output.ensures

pub returns-in-None : goal.returns-in-None
returns-in-None c = linked-none _ _ _ c.find.ensures c.in-None.is
