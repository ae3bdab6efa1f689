use Rattle.host_configuration.proofs.Telling.{setting-by}
use Rattle.host_configuration.proofs.tell_setting.Goals as goal

pub returns-in-Some : goal.returns-in-Some
returns-in-Some c = search setting-by
