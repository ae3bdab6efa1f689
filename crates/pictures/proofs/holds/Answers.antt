use native.Mathlib.Omega.{arith}
use Rattle.pictures.proofs.Tests.{pixels-fit, bits_fit}
use Rattle.pictures.proofs.holds.Goals as goal

pub overflow_mul-pixels : goal.overflow_mul-pixels
overflow_mul-pixels c = omega (arith, pixels-fit c.args.width c.args.height (omega arith) (omega arith))

pub overflow_mul-all : goal.overflow_mul-all
overflow_mul-all c = omega (arith, bits_fit _ c.args.bits (pixels-fit c.args.width c.args.height (omega arith) (omega arith)) (omega arith))

pub overflow_add-result : goal.overflow_add-result
overflow_add-result c = omega (arith, bits_fit _ c.args.bits (pixels-fit c.args.width c.args.height (omega arith) (omega arith)) (omega arith))
