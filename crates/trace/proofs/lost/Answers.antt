use Rattle.trace.proofs.Branches.{lost-refused, lost-noted}
use Rattle.session.specs.Inner.{whole_of}
use Rattle.trace.proofs.lost.Goals as goal

pub returns-in-Err : goal.returns-in-Err
returns-in-Err c = let both = lost-refused (whole_of c.args.s c.args.m.now) _ _ c.lost-reported.ensures _ _ c.in-Err.is c.answered.ensures in record { m_after = both.0; said_value = both.1 }

pub returns-in-Ok : goal.returns-in-Ok
returns-in-Ok c = let both = lost-noted (whole_of c.args.s c.args.m.now) _ _ c.lost-reported.ensures _ c.in-Ok.is c.answered-in-Ok.ensures in record { m_after = both.0; said_value = both.1 }
