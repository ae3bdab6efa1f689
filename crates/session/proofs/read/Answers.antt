use Rattle.session_rules.specs.declared.Account.{Account}
use Rattle.ledger.proofs.Rooms.{room-up, room-entered, entering}
use Rattle.session.specs.Inner.{whole_of}
use Rattle.session.proofs.Calls.{read_done, read_goes}
use Rattle.short_way.proofs.Ready.{ready-able}
use Rattle.session.proofs.Ready.{roomy, sits, gone-few, fate-few}
use native.Mathlib.Omega.{arith}
use Rattle.session.proofs.read.Goals as goal

pub turn-turn-requires : goal.turn-turn-requires
turn-turn-requires c = let r = whole_of c.args.rest c.args.m.now in
    (roomy r (ready-able r c.requires.0), omega (arith, c.requires.1))

pub entered-requires : goal.entered-requires
entered-requires c = let r = whole_of c.args.rest c.args.m.now in
    entering _ _ _ Account.Headers _ (room-up _ _ _ (ready-able r c.requires.0).room (omega arith)) (λ e. omega arith)
    (omega (arith, c.requires.1, c.requires.2))

pub answered-last-requires : goal.answered-last-requires
answered-last-requires c = let r = whole_of c.args.rest c.args.m.now in
    let x = c.turn-turn in
    let a = ready-able r c.requires.0 in (
      rw c.entered.ensures (room-entered _ _ c.args.m.now Account.Headers c.args.h.len a.room
          (omega (arith, c.requires.1, c.requires.2))),
      gone-few r a c.args.h _ x.result x.ensures,
      fate-few r a c.args.h _ x.result x.ensures (omega (arith, c.requires.1)),
    )

pub returns : goal.returns
returns c =
    let r = whole_of c.args.rest c.args.m.now in
    let x = c.turn-turn in
    record {
      m_after = read_done c.args.rest c.args.m.now _ _ c.args.h _ x.result _ _ x.ensures c.entered.ensures
          c.answered-last.ensures c.counted.ensures;
      goes = read_goes r c.args.h c.args.t.now x.result _ x.ensures
          (sits r (ready-able r c.requires.0) c.args.h _ x.result x.ensures) c.requires.2;
    }
