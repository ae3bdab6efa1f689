use Rattle.trace.proofs.Branches.{transfer-refused, transfer-taken, transfer-handed}
use Rattle.session.specs.Inner.{whole_of}
use Rattle.trace.proofs.transfer.Goals as goal

pub returns-in-Refused : goal.returns-in-Refused
returns-in-Refused c = let both = transfer-refused (whole_of c.args.s c.args.m.now) c.args.t.now _ _ c.count-taken.ensures _ _ c.in-Refused.is c.answered.ensures in record { m_after = both.0; said_value = both.1 }

pub returns-in-Taken : goal.returns-in-Taken
returns-in-Taken c = let both = transfer-taken (whole_of c.args.s c.args.m.now) c.args.t.now _ _ c.count-taken.ensures _ _ c.in-Taken.is c.answered-in-Taken.ensures in record { m_after = both.0; said_value = both.1 }

pub returns-in-Handed : goal.returns-in-Handed
returns-in-Handed c = let both = transfer-handed (whole_of c.args.s c.args.m.now) c.args.t.now _ _ c.count-taken.ensures _ _ c.in-Handed.is c.answered-in-Handed.ensures in record { m_after = both.0; said_value = both.1 }
