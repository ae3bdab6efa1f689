use native.Mathlib.Omega.{arith}
use Rattle.configuration_rules.proofs.Tests.{low_small, high_small, masked, few_bytes}
use Rattle.configuration_rules.proofs.packet_bytes.Goals as goal

pub overflow_cast-size : goal.overflow_cast-size
overflow_cast-size c = omega (arith, low_small c.args.w)

pub overflow_cast-extra : goal.overflow_cast-extra
overflow_cast-extra c = omega (arith, high_small c.args.w)

pub overflow_add-result : goal.overflow_add-result
overflow_add-result c = omega (arith, high_small c.args.w)

pub overflow_mul-result : goal.overflow_mul-result
overflow_mul-result c = omega (arith, few_bytes c.args.w)

pub returns : goal.returns
returns c = masked c.args.w
