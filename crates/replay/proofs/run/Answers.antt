use mathlib.Core.Path.{sym, ◌∙◌}
use Rattle.replay.proofs.Records.{run-decided, run-follows}
use Rattle.replay.proofs.run.Goals as goal

pub returns-then-decided : goal.returns-then-decided
returns-then-decided c = run-decided _ _ _ _ _ _ c.requires (sym c.decided.ensures ∙ c.if-decided.true)

pub shape_of-out : goal.shape_of-out
shape_of-out c = c.follow.ensures.put.size

pub returns : goal.returns
returns c = run-follows _ _ _ _ _ _ c.requires _ _ (sym c.decided.ensures ∙ c.if-decided.false) c.follow.ensures
