use Rattle.text.proofs.Puts.{then}
use Rattle.block_text.proofs.refused.Goals as goal

pub returns : goal.returns
returns c = then c.refused-at.ensures.put c.put.ensures.put
