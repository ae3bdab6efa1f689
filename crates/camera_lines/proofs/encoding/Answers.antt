use Rattle.text.proofs.Texts.{none}
use native.Mathlib.Omega.{arith}
use Rattle.camera_lines.proofs.encoding.Goals as goal

pub returns-then-newest : goal.returns-then-newest
returns-then-newest c = rw c.if-newest.true c.render.ensures.put

pub returns : goal.returns
returns c = rw c.if-newest.false (none _ _ (omega arith))
