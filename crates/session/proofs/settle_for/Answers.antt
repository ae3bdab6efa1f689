use lib.ListN.{length}
use native.Mathlib.Omega.{arith}
use borrow.Author.Rules.{rules}
use Rattle.rules.proofs.Kept.{ok-is}
use Rattle.short_way.proofs.Found.{take_found}
use Rattle.short_way.proofs.Ready.{take-ready}
use Rattle.session.specs.Inner.{whole_of}
use Rattle.session.proofs.Calls.{take-refused, buffer-refused, take-met, buffer-met}
use Rattle.session.proofs.settle_for.Goals as goal

pub returns-in-Err : goal.returns-in-Err
returns-in-Err c =
    let e = take_found c.args.rest c.args.m.now c.requires.0 _ c.posted_broken-posted.ensures _ c.args.room (length c.args.t.now) c.in-Err.ensures in
    record {
      m_after = take-refused c.args.rest c.args.m.now c.args.t.now c.args.room _ e;
      written = λ q. buffer-refused c.args.rest c.args.m.now c.args.t.now c.args.room _ e c.args.buffer.now q;
    }

pub settle-requires : goal.settle-requires
settle-requires c =
    let e = take_found c.args.rest c.args.m.now c.requires.0 _ c.posted_broken-posted.ensures _ c.args.room (length c.args.t.now) c.in-Ok.ensures in
    let f = take-ready (whole_of c.args.rest c.args.m.now) c.requires.0 (search rules) c.args.room (length c.args.t.now) (ok-is _ _ e) in
    (f.ready, f.short, λ h. omega (arith, f.whole, c.requires.1 h))

pub returns-in-Ok : goal.returns-in-Ok
returns-in-Ok c =
    let x = c.settle in
    let e = take_found c.args.rest c.args.m.now c.requires.0 _ c.posted_broken-posted.ensures _ c.args.room (length c.args.t.now) c.in-Ok.ensures in
    let f = take-ready (whole_of c.args.rest c.args.m.now) c.requires.0 (search rules) c.args.room (length c.args.t.now) (ok-is _ _ e) in
    record {
      m_after = take-met c.args.rest c.args.m.now c.args.t.now c.args.room (ok-is _ _ e) _ _ x.ensures.m_after;
      written = λ q. buffer-met c.args.rest c.args.m.now c.args.t.now c.args.room (ok-is _ _ e) c.args.buffer.now _ q
          (x.ensures.buffer_after (omega (arith, q, f.whole)));
    }
