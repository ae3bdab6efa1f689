use native.Mathlib.Omega.{arith}
use Rattle.text.proofs.Puts.{then}
use Rattle.text.proofs.number.Goals as goal

pub returns : goal.returns
returns c = record { put = then c.put-next.ensures c.digits.ensures.put; upper_bound = omega arith }
