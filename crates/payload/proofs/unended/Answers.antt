use mathlib.Core.Path.{ap}
use mathlib.Core.Bool.{not}
use Rattle.payload.proofs.unended.Goals as goal

pub returns : goal.returns
returns c = ap not c.flag.ensures
