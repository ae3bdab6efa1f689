use Rattle.text.proofs.Puts.{then}
use Rattle.block_text.proofs.listed.Goals as goal

pub returns : goal.returns
returns c = then c.put-told.ensures (then c.line-ended.ensures.put (then c.line-linked.ensures.put (then c.formats-at.ensures.put c.frames.ensures.put)))
