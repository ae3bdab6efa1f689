use Rattle.used_ids.specs.Marks.{no_marks}
use mathlib.Core.Path.{refl}
use Rattle.used_ids.proofs.none.Goals as goal

pub returns : goal.returns
unfolding no_marks
returns c = refl
