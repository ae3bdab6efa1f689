use Rattle.setup.proofs.Deciding.{read_none, read_asked}
use Rattle.setup.proofs.read_in.Goals as goal

pub returns-in-Refused : goal.returns-in-Refused
returns-in-Refused c = read_none _ _ c.requires _ _ _ _ c.in-Refused.is c.spelt-reading.ensures

pub returns-in-Asks : goal.returns-in-Asks
returns-in-Asks c = read_asked _ _ c.requires _ _ _ _ _ c.in-Asks.is c.spelt-reading.ensures _ c.ready_in.ensures _ c.asked.ensures
