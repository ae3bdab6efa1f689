use Rattle.camera_names.proofs.Bits.{first_bit, next_bit, all-bits}
use native.Mathlib.Omega.{arith}
use Rattle.camera_names.proofs.controls.Goals as goal

pub loop-i-init : goal.loop-i-init
loop-i-init c = first_bit _ _ _ _ _ _ _ (omega arith)

pub loop-i-preserved : goal.loop-i-preserved
loop-i-preserved c = next_bit _ c.loop-i.invariant (omega arith) c.is_set.ensures c.control-at.ensures.put c.control-at.ensures.upper_bound

pub returns : goal.returns
returns c = let both = all-bits c.loop-i.invariant (omega arith) in record { put = both.0; upper_bound = both.1 }
