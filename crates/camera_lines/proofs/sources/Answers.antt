use Rattle.text.proofs.Puts.{then}
use Rattle.camera_lines.proofs.sources.Goals as goal

pub returns : goal.returns
returns c = rw (← c.byte_of-n.ensures) (then c.list-next.ensures.put c.put.ensures)
