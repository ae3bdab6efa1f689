use Rattle.host_probe.proofs.Steps.{left-accepted, left-refused}
use Rattle.host_probe.proofs.leave.Goals as goal

pub returns-in-Ok : goal.returns-in-Ok
returns-in-Ok c = search left-accepted

pub returns-in-Err : goal.returns-in-Err
returns-in-Err c = search left-refused
