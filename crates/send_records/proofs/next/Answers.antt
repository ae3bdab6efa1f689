use Rattle.send_records.proofs.Wrote.{fits, recorded, sized}
use Rattle.std.proofs.Common.{rules}
use Rattle.send_records.proofs.next.Goals as goal

pub record-requires : goal.record-requires
record-requires c = (fits _ _ _ _ _ _ _ _ c.send-sent.ensures.value c.send-sent.ensures.room_after c.size_in.ensures, search rules, search rules)

pub returns : goal.returns
returns c = record { value = sized _ _ _ _ _ _ c.requires.0 c.send-sent.ensures.value; out_after = recorded _ _ _ _ _ _ _ _ _ _ _ c.send-sent.ensures.value c.send-sent.ensures.room_after c.is_wrote.ensures c.size_in.ensures c.«record».ensures }
