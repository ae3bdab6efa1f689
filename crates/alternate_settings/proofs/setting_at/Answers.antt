use Rattle.alternate_settings.proofs.Going.{setting-made}
use Rattle.alternate_settings.proofs.setting_at.Goals as goal

pub returns : goal.returns
returns c = search setting-made
