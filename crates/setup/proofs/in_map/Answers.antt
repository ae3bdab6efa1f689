use native.Mathlib.Omega.{arith}
use Rattle.setup.specs.Inner.{in_map}
use Rattle.setup.proofs.in_map.Goals as goal

pub overflow_shr-result : goal.overflow_shr-result
overflow_shr-result c = omega (arith, c.bit_of.ensures.1)

pub returns : goal.returns
unfolding in_map
returns c = rw c.bit_of.ensures.0
