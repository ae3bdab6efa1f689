use Rattle.configuration_rules.proofs.Tests.{past_end}
use Rattle.configuration_rules.proofs.byte_of.Goals as goal

pub returns : goal.returns
returns c = search past_end
