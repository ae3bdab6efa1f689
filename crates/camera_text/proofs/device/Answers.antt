use Rattle.text.proofs.Texts.{none}
use native.Mathlib.Omega.{arith}
use Rattle.camera_text.proofs.device.Goals as goal

pub returns-then-there : goal.returns-then-there
returns-then-there c = record { put = rw c.if-there.true c.render.ensures.put; upper_bound = omega arith }

pub returns : goal.returns
returns c = record { put = rw c.if-there.false (none _ _ (omega arith)); upper_bound = omega arith }
