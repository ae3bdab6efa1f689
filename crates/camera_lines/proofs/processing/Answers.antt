use Rattle.text.proofs.Puts.{then}
use Rattle.camera_lines.proofs.processing.Goals as goal

pub returns : goal.returns
returns c = rw (← c.byte_of-n.ensures) (then c.render-at.ensures.put c.processing.ensures.put)
