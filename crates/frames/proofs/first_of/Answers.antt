use mathlib.Core.Path.{◌∙◌}
use Rattle.frames.proofs.Choices.{or-first}
use Rattle.frames.proofs.first_of.Goals as goal

pub returns : goal.returns
returns c = c.or.ensures ∙ rw c.then_some.ensures (or-first _ _ _)
