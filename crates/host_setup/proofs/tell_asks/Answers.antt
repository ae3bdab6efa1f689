use Rattle.host_setup.proofs.Found.{asks-by}
use Rattle.host_setup.proofs.tell_asks.Goals as goal

pub returns : goal.returns
returns c = search asks-by
