use Rattle.camera_text.proofs.Steps.{inside, outside}
use native.Mathlib.Omega.{arith}
use Rattle.camera_text.proofs.written.Goals as goal

pub returns-then-at-s : goal.returns-then-at-s
returns-then-at-s c = inside _ _ _ c.if-at-s.true c.descriptor.ensures

pub returns : goal.returns
returns c = outside _ _ _ _ c.if-at-s.false (omega arith)
