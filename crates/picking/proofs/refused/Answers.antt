use mathlib.Core.Path.{refl}
use Rattle.picking.specs.Inner.{refused_by}
use Rattle.picking.proofs.refused.Goals as goal

pub returns : goal.returns
unfolding refused_by
returns c = refl
