use Rattle.places.proofs.Branches.{past}
use Rattle.places.proofs.number_at.Goals as goal

pub returns : goal.returns
returns c = search past
