use Rattle.std.proofs.Common.{arith}
use Rattle.text.proofs.Puts.{then}
use Rattle.frame_lines.proofs.put_backward.Goals as goal

pub returns : goal.returns
returns c = record { put = then c.put-minus.ensures c.digits.ensures.put; upper_bound = omega arith }
