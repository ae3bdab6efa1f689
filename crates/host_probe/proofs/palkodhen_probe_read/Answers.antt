use Rattle.host_probe.proofs.Steps.{read_none, left-none, read_is, left_is}
use Rattle.host_probe.proofs.palkodhen_probe_read.Goals as goal

pub returns-in-None : goal.returns-in-None
returns-in-None c = search (read_none, left-none)

pub returns-in-Some : goal.returns-in-Some
returns-in-Some c = search (read_is, left_is)
