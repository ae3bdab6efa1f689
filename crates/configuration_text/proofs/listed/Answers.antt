use Rattle.text.proofs.Puts.{then}
use Rattle.configuration_text.proofs.listed.Goals as goal

pub returns : goal.returns
returns c = then c.put-told.ensures (then c.line-at.ensures.put c.streams.ensures)
