use Rattle.host_probe.proofs.Steps.{read-fields, left-fields}
use Rattle.host_probe.proofs.read_as.Goals as goal

pub returns : goal.returns
returns c = search (read-fields, left-fields)
