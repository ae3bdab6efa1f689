use Rattle.host_probe.proofs.Steps.{write-none, room-none, write-is, room-is}
use Rattle.host_probe.proofs.palkodhen_probe_write.Goals as goal

pub returns-in-None : goal.returns-in-None
returns-in-None c = search (write-none, room-none)

pub returns-in-Some : goal.returns-in-Some
returns-in-Some c = search (write-is, room-is)
