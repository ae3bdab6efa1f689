use native.Mathlib.Omega.{arith}
use Rattle.rules.proofs.Kept.{ok-is}
use Rattle.frames.proofs.Bounds.{closed-gone}
use Rattle.ledger.proofs.Rooms.{room-up}
use Rattle.rule_50.proofs.Able.{able}
use Rattle.session_rules.specs.Refusals.{posted_of}
use Rattle.session.specs.Inner.{whole_of}
use Rattle.short_way.proofs.Found.{close-found}
use Rattle.short_way.proofs.Ready.{close-sound}
use Rattle.session.proofs.Calls.{close-refused, close-closed}
use borrow.Author.Rules.{rules}
use Rattle.session.proofs.close.Goals as goal

pub returns-in-Err : goal.returns-in-Err
returns-in-Err c = close-refused c.args.rest c.args.m.now _ (close-found c.args.rest c.args.m.now (search rules) _ c.posted_broken-posted.ensures _ c.in-Err.ensures)

pub ended-requires : goal.ended-requires
ended-requires c = let e = close-found c.args.rest c.args.m.now (search rules) _ c.posted_broken-posted.ensures _ c.in-Ok.ensures in
    let r = whole_of c.args.rest c.args.m.now in
    let a = able _ _ (posted_of r) _ (close-sound r (ok-is _ _ e)) (search rules) (search rules) in (
      room-up _ _ _ a.room (omega arith),
      rw c.shut-shut.ensures (omega (arith, closed-gone c.args.rest.track, a.under)),
    )

pub returns-in-Ok : goal.returns-in-Ok
returns-in-Ok c = let e = close-found c.args.rest c.args.m.now (search rules) _ c.posted_broken-posted.ensures _ c.in-Ok.ensures in
    close-closed c.args.rest c.args.m.now _ _ (ok-is _ _ e) c.shut-shut.ensures c.ended.ensures
