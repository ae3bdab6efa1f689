use Rattle.text.proofs.Puts.{then}
use Rattle.block_text.proofs.offered.Goals as goal

pub returns : goal.returns
returns c = then c.put-told.ensures c.fields.ensures.put
