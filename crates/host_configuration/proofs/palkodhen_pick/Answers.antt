use Rattle.host_configuration.proofs.Telling.{picked-by}
use Rattle.host_configuration.proofs.palkodhen_pick.Goals as goal

pub returns : goal.returns
returns c = search picked-by
