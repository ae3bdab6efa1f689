use mathlib.Core.Path.{◌∙◌}
use Rattle.frames.proofs.Choices.{or-earlier, or-later, beq-same}
use Rattle.frames.proofs.joined.Goals as goal

pub returns : goal.returns
returns c = simp (
  c.or-layer.ensures ∙ or-later c.args.r.layer c.args.h.layer,
  c.or-stamp.ensures ∙ or-earlier c.args.r.stamp c.args.h.stamp,
  c.filled-fill.ensures,
  c.first_of-fault.ensures,
  c.first_of-m.ensures,
  c.first_of-c.ensures,
  c.clash.ensures,
  c.first_of-e.ensures,
  beq-same,
)
