use Rattle.text.proofs.Puts.{then}
use Rattle.camera_text.proofs.refused.Goals as goal

pub returns : goal.returns
returns c = then c.refused-next.ensures.put c.put.ensures.put
