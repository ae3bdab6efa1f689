use Rattle.trace.proofs.Branches.{close-refused, close-closed}
use Rattle.session.specs.Inner.{whole_of}
use Rattle.trace.proofs.close.Goals as goal

pub returns-in-Err : goal.returns-in-Err
returns-in-Err c = let both = close-refused (whole_of c.args.s c.args.m.now) _ _ c.close-closed.ensures _ _ c.in-Err.is c.answered.ensures in record { m_after = both.0; said_value = both.1 }

pub returns-in-Ok : goal.returns-in-Ok
returns-in-Ok c = let both = close-closed (whole_of c.args.s c.args.m.now) _ _ c.close-closed.ensures _ _ c.in-Ok.is c.answered-in-Ok.ensures in record { m_after = both.0; said_value = both.1 }
