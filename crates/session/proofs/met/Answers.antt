use mathlib.Core.List.{[]}
use Rattle.ledger.proofs.Rooms.{room-up}
use Rattle.session.specs.Inner.{whole_of}
use Rattle.session.proofs.Calls.{handed_out, took-idle, took-unreadable, took-readable, header-within}
use Rattle.short_way.proofs.Ready.{ready-able}
use native.Mathlib.Omega.{arith}
use Rattle.session.proofs.met.Goals as goal

pub fated-last-requires : goal.fated-last-requires
fated-last-requires c = let r = whole_of c.args.rest c.args.m.now in
    (room-up _ _ _ (ready-able r c.requires.0).room (omega arith), omega arith)

pub fated-last-requires-in-Unreadable : goal.fated-last-requires-in-Unreadable
fated-last-requires-in-Unreadable c = let r = whole_of c.args.rest c.args.m.now in
    (room-up _ _ _ (ready-able r c.requires.0).room (omega arith), omega (arith, c.requires.1))

pub returns-then-hands : goal.returns-then-hands
returns-then-hands c = let both = handed_out c.args.rest c.args.m.now c.args.t.now _ _ _ _ _ _ c.read-reading.ensures
    c.in-Readable.is c.hands.ensures c.if-hands.true c.handed.ensures c.unwritten-then-hands.ensures in record { m_after = both.0; goes = both.1 }

pub read-requires : goal.read-requires
read-requires c = (
  c.requires.0,
  c.requires.1,
  header-within c.args.rest [] c.args.t.now _ _ c.read-reading.ensures c.in-Readable.is,
)

pub returns-in-Idle : goal.returns-in-Idle
returns-in-Idle c = let both = took-idle c.args.rest c.args.m.now c.args.t.now _ _ _ _ _ c.read-reading.ensures
    c.in-Idle.is c.fated-last.ensures c.counted.ensures c.unwritten.ensures in record { m_after = both.0; goes = both.1 }

pub returns-in-Unreadable : goal.returns-in-Unreadable
returns-in-Unreadable c = let both = took-unreadable c.args.rest c.args.m.now c.args.t.now _ _ _ _ _ _ _ c.read-reading.ensures
    c.in-Unreadable.is c.fated-last-in-Unreadable.ensures c.spoilt.ensures c.counted-in-Unreadable.ensures c.unwritten-in-Unreadable.ensures in record { m_after = both.0; goes = both.1 }

pub returns-else-hands : goal.returns-else-hands
returns-else-hands c = let both = took-readable c.args.rest c.args.m.now c.args.t.now _ _ _ _ _ c.read-reading.ensures
    c.in-Readable.is c.hands.ensures c.if-hands.false c.read.ensures.m_after c.read.ensures.goes in record { m_after = both.0; goes = both.1 }
