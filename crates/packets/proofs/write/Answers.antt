use Rattle.std.proofs.Common.{refl}
use Rattle.packets.proofs.Writing.{room-short, room-enough}
use Rattle.packets.proofs.write.Goals as goal

pub returns-then-room-lt-SIZE-clause-value : goal.returns-then-room-lt-SIZE-clause-value
returns-then-room-lt-SIZE-clause-value c = (room-short _ c.if-room-lt-SIZE.true).0

pub returns-clause-value : goal.returns-clause-value
returns-clause-value c =
    let a = c.args in
    (room-enough a.interface a.unit a.setting a.request a.room.now _ _ c.if-room-lt-SIZE.false c.packet_of-packet.ensures refl).0
