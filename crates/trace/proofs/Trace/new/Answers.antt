use Rattle.trace.proofs.Branches.{begins}
use Rattle.trace.proofs.Trace.new.Goals as goal

pub returns : goal.returns
returns c = search begins
