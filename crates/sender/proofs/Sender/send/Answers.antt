use mathlib.Core.Path.{refl, sym}
use native.Mathlib.Omega.{arith}
use Rattle.rules.proofs.Kept.{err-is, err-above, ok-is}
use Rattle.sender.proofs.Writing.{send-refused, send-done, send-ready, send-wrote}
use Rattle.sender.proofs.Sender.send.Goals as goal

pub returns-in-Err : goal.returns-in-Err
returns-in-Err c =
    let above = err-above _ _ c.in-Err.ensures in
    let both = send-refused c.args.self c.args.frame.now c.args.payload c.args.stamp c.args.room.now _ (sym (err-is _ _ c.in-Err.ensures)) (λ z. omega (arith, above, z)) in
    record { value = both.0; room_after = both.1 }

pub returns-then-frame-self : goal.returns-then-frame-self
returns-then-frame-self c =
    let both = send-done c.args.self c.args.frame.now c.args.payload c.args.stamp c.args.room.now _ (sym (ok-is _ _ c.in_default.ensures)) refl c.if-frame-self.true in
    record { value = both.0; room_after = both.1 }

pub write-requires : goal.write-requires
write-requires c = send-ready c.args.self c.args.frame.now c.args.payload c.args.stamp c.args.room.now _ (sym (ok-is _ _ c.in_default.ensures)) refl c.if-frame-self.false

pub returns : goal.returns
returns c =
    let both = send-wrote c.args.self c.args.frame.now c.args.payload c.args.stamp c.args.room.now _
    (sym (ok-is _ _ c.in_default.ensures)) refl c.if-frame-self.false _ _ c.write.ensures.value c.write.ensures.room_after in
    record { value = both.0; room_after = both.1 }
