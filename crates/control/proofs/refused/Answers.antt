use Rattle.control.proofs.refused.Goals as goal

pub returns : goal.returns
returns c = rw c.no_table-table.ensures
