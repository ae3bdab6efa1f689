use Rattle.probe.proofs.Tests.{size_is}
use Rattle.probe.proofs.size_of.Goals as goal

pub returns : goal.returns
returns c = size_is _ _ c.says_of.ensures
