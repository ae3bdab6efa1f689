use Rattle.std.proofs.Common.{arith, rules}
use Rattle.frame_lines.proofs.put_since.Goals as goal

pub returns-in-None : goal.returns-in-None
returns-in-None c = record { put = rw c.in-None.is c.put.ensures; upper_bound = search rules }

pub returns-in-Forward : goal.returns-in-Forward
returns-in-Forward c = record { put = rw (c.in-Some.is, c.in-Forward.is) c.number.ensures.put; upper_bound = omega arith }

pub returns-in-Backward : goal.returns-in-Backward
returns-in-Backward c = record { put = rw (c.in-Some.is, c.in-Backward.is) c.put_backward.ensures.put; upper_bound = c.put_backward.ensures.upper_bound }
