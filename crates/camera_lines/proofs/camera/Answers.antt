use Rattle.text.proofs.Puts.{then}
use Rattle.camera_lines.proofs.camera.Goals as goal

pub returns : goal.returns
returns c = rw (← c.byte_of-n.ensures) (then c.terminal-named.ensures.put (then c.render-at.ensures.put c.camera.ensures.put))
