use Rattle.packets.proofs.Spelling.{no-setting, this-setting}
use Rattle.packets.proofs.spelt_with.Goals as goal

pub returns-in-None : goal.returns-in-None
returns-in-None c = no-setting _ _ _ _ _ c.byte_at.ensures c.setting_of.ensures _ c.in-None.is c.no_packet.ensures

pub returns-in-Some : goal.returns-in-Some
returns-in-Some c = this-setting _ _ _ _ _ c.byte_at.ensures c.setting_of.ensures _ c.in-Some.is c.spelt_by.ensures
