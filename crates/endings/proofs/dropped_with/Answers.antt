use Rattle.endings.proofs.Tell.{dropped-as}
use Rattle.endings.proofs.dropped_with.Goals as goal

pub returns : goal.returns
returns c = search dropped-as
