use Rattle.packets.proofs.Spelling.{no-request, this-request}
use Rattle.packets.proofs.spelt.Goals as goal

pub returns-in-None : goal.returns-in-None
returns-in-None c = no-request _ _ _ _ c.byte_at.ensures c.request_of.ensures _ c.in-None.is c.no_packet.ensures

pub returns-in-Some : goal.returns-in-Some
returns-in-Some c = this-request _ _ _ _ c.byte_at.ensures c.request_of.ensures _ c.in-Some.is c.spelt_with.ensures
