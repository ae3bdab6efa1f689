use Rattle.going_on.proofs.Checks.{clash-said}
use Rattle.going_on.proofs.agrees.Goals as goal

pub returns-in-Some : goal.returns-in-Some
returns-in-Some c = clash-said c.args.was _ c.old_stamp.result c.old_stamp.ensures _ c.clash.ensures
