use Rattle.streaming_descriptors.proofs.Subtypes.{header-short, header-long, product-fits}
use native.Mathlib.Omega.{arith}
use Rattle.streaming_descriptors.proofs.header_shape.Goals as goal

pub returns-then-len-lt13 : goal.returns-then-len-lt13
returns-then-len-lt13 c = search header-short

pub overflow_mul-result : goal.overflow_mul-result
overflow_mul-result c = omega (arith, product-fits _ _ c.wide.ensures.1 c.wide-2.ensures.1)

pub overflow_add-result : goal.overflow_add-result
overflow_add-result c = omega (arith, product-fits _ _ c.wide.ensures.1 c.wide-2.ensures.1)

pub returns : goal.returns
returns c = search header-long
