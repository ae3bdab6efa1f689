use Rattle.host_configuration.proofs.Telling.{there-accepted, at-accepted}
use Rattle.host_configuration.proofs.block_in.Goals as goal

pub returns-in-Ok : goal.returns-in-Ok
returns-in-Ok c = search (there-accepted, at-accepted)
