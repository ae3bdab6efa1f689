use Rattle.session_rules.specs.declared.Account.{Account}
use Rattle.session_rules.specs.Accounts.{account_for, idle_at}
use Rattle.ledger.proofs.Lent.{fated-idle, fated-kept, fated-stray, fated-delivered, fated-still, fated-dropped, fated-unreadable}
use Rattle.ledger.proofs.Rooms.{adding, entering, room-entered}
use Rattle.session_rules.proofs.Places.{not-under-way}
use native.Mathlib.Omega.{arith}
use Rattle.ledger.proofs.fated.Goals as goal

pub plus-requires : goal.plus-requires
plus-requires c = adding _ _ idle_at 1 c.requires.0 (omega arith) (omega arith) (omega arith)

pub entered-requires : goal.entered-requires
entered-requires c = entering _ _ _ Account.Stray _ c.requires.0 (λ e. omega arith)
    (rw c.in-Stray.is at c.requires.1)

pub entered-requires-in-Delivered : goal.entered-requires-in-Delivered
entered-requires-in-Delivered c = entering _ _ _ Account.Delivered _ c.requires.0 (λ e. omega arith)
    (rw c.in-Delivered.is at c.requires.1)

pub timed-requires : goal.timed-requires
timed-requires c = let n = rw c.in-Delivered.is at c.requires.1 in
    rw c.entered-in-Delivered.ensures (room-entered _ _ _ Account.Delivered _ c.requires.0 (omega arith))

pub entered-requires-in-Still : goal.entered-requires-in-Still
entered-requires-in-Still c = entering _ _ _ Account.Still _ c.requires.0 (λ e. omega arith)
    (rw c.in-Still.is at c.requires.1)

pub entered-requires-in-Dropped : goal.entered-requires-in-Dropped
entered-requires-in-Dropped c = rw c.account_for.ensures
    (entering _ _ _ (account_for c.in-Dropped.why) _ c.requires.0
    (not-under-way c.in-Dropped.why) (rw c.in-Dropped.is at c.requires.1))

pub entered-requires-in-Unreadable : goal.entered-requires-in-Unreadable
entered-requires-in-Unreadable c = entering _ _ _ Account.Unreadable _ c.requires.0 (λ e. omega arith)
    (rw c.in-Unreadable.is at c.requires.1)

pub returns-in-Idle : goal.returns-in-Idle
returns-in-Idle c = search fated-idle

pub returns-in-Kept : goal.returns-in-Kept
returns-in-Kept c = search fated-kept

pub returns-in-Stray : goal.returns-in-Stray
returns-in-Stray c = search fated-stray

pub returns-in-Delivered : goal.returns-in-Delivered
returns-in-Delivered c = search fated-delivered

pub returns-in-Still : goal.returns-in-Still
returns-in-Still c = search fated-still

pub returns-in-Dropped : goal.returns-in-Dropped
returns-in-Dropped c = search fated-dropped

pub returns-in-Unreadable : goal.returns-in-Unreadable
returns-in-Unreadable c = search fated-unreadable
