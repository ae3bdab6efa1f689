use Rattle.host_probe.proofs.Steps.{refused-check, accepted-check}
use Rattle.host_probe.proofs.check_under.Goals as goal

pub returns-in-Err : goal.returns-in-Err
returns-in-Err c = search refused-check

pub returns-in-Ok : goal.returns-in-Ok
returns-in-Ok c = search accepted-check
