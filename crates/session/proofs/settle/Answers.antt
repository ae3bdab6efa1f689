use mathlib.Core.Path.{◌∙◌}
use lib.ListN.{take, drop}
use native.Mathlib.Omega.{arith}
use Prim.Native.Nat.{◌+◌, ◌-◌}
use Rattle.copier.proofs.Laws.{laid}
use Rattle.short_way.proofs.Ready.{ready-able}
use Rattle.session.specs.Inner.{whole_of}
use Rattle.session.proofs.Calls.{part-fits, put-met}
use Rattle.session.proofs.settle.Goals as goal

pub returns-then-buffer-eq0 : goal.returns-then-buffer-eq0
returns-then-buffer-eq0 c =
    let a = ready-able (whole_of c.args.rest c.args.m.now) c.requires.0 in
    record { m_after = c.met-posted.ensures.m_after; buffer_after = λ f. absurd (omega (arith, f, a.frame.low, c.if-buffer-eq0.true)) }

pub slice_bounds-lay-count : goal.slice_bounds-lay-count
slice_bounds-lay-count c = omega (arith, c.met-posted.ensures.goes.inside, c.requires.2 c.if-buffer-eq0.false)

pub slice_bounds-lay-start : goal.slice_bounds-lay-start
slice_bounds-lay-start c = omega (arith, c.met-posted.ensures.goes.inside, c.requires.2 c.if-buffer-eq0.false)

pub lay-requires : goal.lay-requires
lay-requires c = let x = c.met-posted.result in
    (part-fits c.args.buffer.now c.args.t.now x.at x.from x.len (omega (arith, c.met-posted.ensures.goes.inside, c.requires.2 c.if-buffer-eq0.false)) c.met-posted.ensures.goes.enough).1

pub returns : goal.returns
returns c =
    let x = c.met-posted.result in
    let f = part-fits c.args.buffer.now c.args.t.now x.at x.from x.len (omega (arith, c.met-posted.ensures.goes.inside, c.requires.2 c.if-buffer-eq0.false)) c.met-posted.ensures.goes.enough in
    record {
      m_after = c.met-posted.ensures.m_after;
      buffer_after = λ h. laid c.args.buffer.now (take (x.from + x.len - x.from) (drop x.from c.args.t.now)) _ x.at f.0 c.lay.ensures
          ∙ put-met (whole_of c.args.rest c.args.m.now) c.args.buffer.now c.args.t.now x c.met-posted.ensures.goes;
    }
