use Rattle.trace.proofs.Branches.{step-closed, step-worst, step-called}
use Rattle.session.specs.Inner.{whole_of}
use Rattle.records.proofs.Fine.{fine}
use mathlib.Core.Path.{sym, ◌∙◌}
use Rattle.trace.proofs.step.Goals as goal

pub returns-then-s : goal.returns-then-s
returns-then-s c = let both = step-closed c.args.form (whole_of c.args.s c.args.m.now) c.args.r.now _ c.if-s.true c.number.ensures in record { m_after = both.0; said_value = both.1 }

pub returns-then-bad : goal.returns-then-bad
returns-then-bad c = let both = step-worst c.args.form (whole_of c.args.s c.args.m.now) c.args.r.now _ _ c.if-s.false c.bad.ensures c.if-bad.true c.number-then-bad.ensures in record { m_after = both.0; said_value = both.1 }

pub call-requires : goal.call-requires
call-requires c = let w = fine c.args.form c.args.r.now (sym c.bad.ensures ∙ c.if-bad.false) in
    (w.size, w.short, c.requires)

pub returns : goal.returns
returns c = let both = step-called c.args.form (whole_of c.args.s c.args.m.now) c.args.r.now _ _ _ c.if-s.false c.bad.ensures c.if-bad.false (c.call.ensures.m_after, c.call.ensures.said_value) in record { m_after = both.0; said_value = both.1 }
