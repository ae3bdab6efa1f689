use Rattle.device_file.proofs.Within.{total-is}
use Rattle.device_file.proofs.total.Goals as goal

pub returns : goal.returns
returns c = search total-is
