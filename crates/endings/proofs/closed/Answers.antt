use Rattle.endings.proofs.Tell.{closed-refused, closed-told}
use Rattle.endings.proofs.closed.Goals as goal

pub returns-in-Err : goal.returns-in-Err
returns-in-Err c = search closed-refused

pub returns-in-Ok : goal.returns-in-Ok
returns-in-Ok c = search closed-told
