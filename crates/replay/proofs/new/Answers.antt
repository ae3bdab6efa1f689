use Rattle.replay.proofs.Records.{begins}
use Rattle.replay.proofs.new.Goals as goal

pub returns : goal.returns
returns c = begins _ _ c.new-begun.ensures
