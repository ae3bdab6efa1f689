use native.Mathlib.Omega.{arith}
use Rattle.rules.proofs.Kept.{ok-is}
use Rattle.session_rules.specs.Accounts.{lost_at}
use Rattle.ledger.proofs.Rooms.{adding}
use Rattle.session.specs.Inner.{whole_of}
use Rattle.short_way.proofs.Found.{lost-found}
use Rattle.session.proofs.Calls.{lost-refused, lost-noted}
use Rattle.short_way.proofs.Ready.{ready-able, lost-ready}
use borrow.Author.Rules.{rules}
use Rattle.session.proofs.lost.Goals as goal

pub returns-in-Err : goal.returns-in-Err
returns-in-Err c = lost-refused c.args.rest c.args.m.now _ (lost-found c.args.rest c.args.m.now (search rules) _ c.posted_broken-posted.ensures _ c.in-Err.ensures)

pub plus-requires : goal.plus-requires
plus-requires c = let e = lost-found c.args.rest c.args.m.now (search rules) _ c.posted_broken-posted.ensures _ c.in-Ok.ensures in
    let r = lost-ready (whole_of c.args.rest c.args.m.now) (search rules) (search rules) (ok-is _ _ e) in
    adding _ _ lost_at 1 (ready-able (whole_of c.args.rest c.args.m.now) r).room (omega arith) (omega arith) (omega arith)

pub overflow_add-result : goal.overflow_add-result
overflow_add-result c = let e = lost-found c.args.rest c.args.m.now (search rules) _ c.posted_broken-posted.ensures _ c.in-Ok.ensures in
    let r = lost-ready (whole_of c.args.rest c.args.m.now) (search rules) (search rules) (ok-is _ _ e) in
    omega (arith, r.more)

pub returns-in-Ok : goal.returns-in-Ok
returns-in-Ok c = let e = lost-found c.args.rest c.args.m.now (search rules) _ c.posted_broken-posted.ensures _ c.in-Ok.ensures in
    lost-noted c.args.rest c.args.m.now _ _ (ok-is _ _ e) c.plus.ensures c.spoilt.ensures
