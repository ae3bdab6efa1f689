use Rattle.text.proofs.Texts.{none}
use native.Mathlib.Omega.{arith}
use Rattle.camera_text.proofs.refusal.Goals as goal

pub returns-in-Ok : goal.returns-in-Ok
returns-in-Ok c = rw c.in-Ok.is (none _ _ (omega arith))

pub returns-in-Err : goal.returns-in-Err
returns-in-Err c = rw c.in-Err.is c.refused.ensures
