use Rattle.text.proofs.Puts.{then}
use native.Mathlib.Omega.{arith}
use Rattle.camera_lines.proofs.terminal.Goals as goal

pub returns : goal.returns
returns c = record { put = then c.render-at.ensures.put c.type_line.ensures.put; upper_bound = omega arith }
