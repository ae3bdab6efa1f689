use Rattle.std.proofs.Common.{rules}
use Rattle.frame_lines.proofs.put_reason.Goals as goal

pub returns-in-Gap : goal.returns-in-Gap
returns-in-Gap c = record { put = rw c.in-Gap.is c.put.ensures; upper_bound = search rules }

pub returns-in-Error : goal.returns-in-Error
returns-in-Error c = record { put = rw c.in-Error.is c.put-in-Error.ensures; upper_bound = search rules }

pub returns-in-Clock : goal.returns-in-Clock
returns-in-Clock c = record { put = rw c.in-Clock.is c.put-in-Clock.ensures; upper_bound = search rules }

pub returns-in-Mixed : goal.returns-in-Mixed
returns-in-Mixed c = record { put = rw c.in-Mixed.is c.put-in-Mixed.ensures; upper_bound = search rules }

pub returns-in-Long : goal.returns-in-Long
returns-in-Long c = record { put = rw c.in-Long.is c.put-in-Long.ensures; upper_bound = search rules }

pub returns-in-Cut : goal.returns-in-Cut
returns-in-Cut c = record { put = rw c.in-Cut.is c.put-in-Cut.ensures; upper_bound = search rules }

pub returns-in-Empty : goal.returns-in-Empty
returns-in-Empty c = record { put = rw c.in-Empty.is c.put-in-Empty.ensures; upper_bound = search rules }
