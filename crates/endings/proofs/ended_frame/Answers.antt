use Rattle.endings.proofs.Tell.{ended-under}
use Rattle.endings.proofs.ended_frame.Goals as goal

pub returns-in-Under : goal.returns-in-Under
returns-in-Under c = search ended-under
