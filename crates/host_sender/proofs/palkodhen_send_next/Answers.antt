use Rattle.host_sender.proofs.Steps.{next-unsound, next-sound}
use Rattle.host_sender.proofs.palkodhen_send_next.Goals as goal

pub returns-then-w-gt1 : goal.returns-then-w-gt1
returns-then-w-gt1 c = let both = next-unsound _ c.if-w-gt1.true in record { value = both.0; w_after = both.1 }

pub returns : goal.returns
returns c = let both = next-sound _ c.if-w-gt1.false _ _ c.sender_in-x.ensures c.next.ensures _ c.put.ensures in record { value = both.0; w_after = both.1 }
