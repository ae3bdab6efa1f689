use Rattle.std.proofs.Common.{rules}
use Rattle.frame_lines.proofs.put_how.Goals as goal

pub returns-in-Delivered : goal.returns-in-Delivered
returns-in-Delivered c = record { put = rw c.in-Delivered.is c.put.ensures; upper_bound = search rules }

pub returns-in-Still : goal.returns-in-Still
returns-in-Still c = record { put = rw c.in-Still.is c.put-in-Still.ensures; upper_bound = search rules }

pub returns-in-Dropped : goal.returns-in-Dropped
returns-in-Dropped c = record { put = rw c.in-Dropped.is c.put_reason.ensures.put; upper_bound = c.put_reason.ensures.upper_bound }
