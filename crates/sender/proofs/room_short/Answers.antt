use Rattle.sender.proofs.Writing.{room_after, room_next}
use Rattle.sender.proofs.room_short.Goals as goal

pub returns-then-n-at : goal.returns-then-n-at
returns-then-n-at c = search room_after

pub returns : goal.returns
returns c = search room_next
