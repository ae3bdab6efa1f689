use Rattle.endings.proofs.Tell.{out-still, out-delivered}
use Rattle.endings.proofs.handed_out.Goals as goal

pub returns-then-still : goal.returns-then-still
returns-then-still c = search out-still

pub returns-else-still : goal.returns-else-still
returns-else-still c = search out-delivered
