use Rattle.packets.proofs.Spelling.{by-same, by-other}
use Rattle.packets.proofs.spelt_by.Goals as goal

pub returns-then-same : goal.returns-then-same
returns-then-same c = by-same _ _ _ _ _ _ c.packet_of-packet.ensures (c.same.ensures.0 c.if-same.true)

pub returns : goal.returns
returns c = by-other _ _ _ _ _ _ _ _ c.byte_at-named.ensures c.packet_of-packet.ensures c.if-same.false c.same.ensures.1 c.no_packet.ensures
