use Rattle.std.proofs.Common.{rules}
use Rattle.frame_lines.proofs.put_stamp.Goals as goal

pub returns-in-None : goal.returns-in-None
returns-in-None c = record { put = rw c.in-None.is c.put_dash.ensures; upper_bound = search rules }

pub returns-in-Some : goal.returns-in-Some
returns-in-Some c = record { put = rw c.in-Some.is c.number.ensures.put; upper_bound = c.number.ensures.upper_bound }
