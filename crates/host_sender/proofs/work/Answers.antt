use Rattle.host_sender.proofs.Steps.{worked}
use Rattle.host_sender.proofs.work.Goals as goal

pub returns : goal.returns
returns c = let both = worked c.args.w.now _ _ _ _ _ c.sender_in-x.ensures _ _ c.send-sent.ensures.value c.send-sent.ensures.room_after _ c.put.ensures _ c.tell.ensures in record { value = both.0; w_after = both.1.0; room_after = both.1.1 }
