use Rattle.host_sender.proofs.Steps.{unsound-call, sound-call}
use Rattle.host_sender.proofs.palkodhen_send.Goals as goal

pub returns-then-w-gt1 : goal.returns-then-w-gt1
returns-then-w-gt1 c = let both = unsound-call _ _ _ _ _ c.if-w-gt1.true _ c.unsound.ensures in record { value = both.0; w_after = both.1.0; room_after = both.1.1 }

pub returns : goal.returns
returns c = let both = sound-call _ _ _ _ _ c.if-w-gt1.false _ c.stamp_in-s.ensures _ _ _ c.work.ensures.value c.work.ensures.w_after c.work.ensures.room_after in record { value = both.0; w_after = both.1.0; room_after = both.1.1 }
