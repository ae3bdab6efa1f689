use Rattle.host_configuration.proofs.Settings.{few-streams}
use Rattle.host_configuration.proofs.palkodhen_setting_at.Goals as goal

pub setting_among-requires : goal.setting_among-requires
setting_among-requires c = search few-streams
