use mathlib.Core.Path.{refl}
use Rattle.host_words.proofs.Ended.{short, too-high, no_words, some_words}
use Rattle.host_words.proofs.palkodhen_words.Goals as goal

pub returns-then-room-lt-ROOM : goal.returns-then-room-lt-ROOM
returns-then-room-lt-ROOM c = let both = short _ _ c.if-room-lt-ROOM.true in record { value = both.0; room_after = both.1 }

pub returns-then-number-gt255 : goal.returns-then-number-gt255
returns-then-number-gt255 c = let both = too-high _ _ c.if-room-lt-ROOM.false c.if-number-gt255.true in record { value = both.0; room_after = both.1 }

pub returns-then-end-eq0 : goal.returns-then-end-eq0
returns-then-end-eq0 c = let both = no_words _ _ _ _ c.if-room-lt-ROOM.false c.put-end.ensures.put c.if-end-eq0.true in record { value = both.0; room_after = both.1 }

pub returns : goal.returns
returns c = let both = some_words _ _ _ _ c.if-room-lt-ROOM.false c.put-end.ensures.put _ c.if-end-eq0.false refl in record { value = both.0; room_after = both.1 }
