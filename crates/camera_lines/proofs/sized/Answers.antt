use Rattle.text.proofs.Puts.{then}
use Rattle.camera_lines.proofs.sized.Goals as goal

pub returns : goal.returns
returns c = then c.render-at.ensures.put c.intervals.ensures
