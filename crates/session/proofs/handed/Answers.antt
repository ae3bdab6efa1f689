use native.Mathlib.Omega.{arith}
use Rattle.ledger.proofs.Rooms.{room-up}
use Rattle.session.specs.Inner.{whole_of}
use Rattle.session.proofs.Calls.{handed-done}
use Rattle.short_way.proofs.Ready.{ready-able}
use Rattle.session.proofs.Ready.{out-few}
use mathlib.Core.List.{[]}
use Rattle.session.proofs.handed.Goals as goal

pub fated-last-requires : goal.fated-last-requires
fated-last-requires c = let r = whole_of c.args.rest c.args.m.now in
    let a = ready-able r c.requires in
    (room-up _ _ _ a.room (omega arith), out-few r a _ _ c.hand_out-out.ensures c.fate_for-fate.ensures)

pub returns : goal.returns
returns c = handed-done c.args.rest c.args.m.now [] _ _ _ _ c.hand_out-out.ensures
    c.fate_for-fate.ensures c.fated-last.ensures
