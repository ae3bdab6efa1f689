use Rattle.text.proofs.Puts.{then}
use Rattle.block_text.proofs.table.Goals as goal

pub returns : goal.returns
returns c = then c.put-told.ensures (then c.revision-revised.ensures.put (then c.line-at.ensures.put c.entities.ensures.put))
