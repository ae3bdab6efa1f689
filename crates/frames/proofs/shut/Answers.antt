use mathlib.Core.Logic.{inl, inr}
use Rattle.frames.proofs.Choices.{or-why}
use Rattle.frames.proofs.Turns.{closed-fresh, closed-past}
use Rattle.session_rules.specs.Turns.{closed_of}
use Rattle.frames.proofs.shut.Goals as goal

pub returns-in-Fresh : goal.returns-in-Fresh
returns-in-Fresh c = elim c.in-Fresh.is [ inl e ↦ closed-fresh c.args.track e | inr e ↦ closed-past c.args.track _ e.1 ]

pub returns-in-Under : goal.returns-in-Under
unfolding closed_of
returns-in-Under c = simp (c.unwrap_or-why.ensures, or-why, c.in-Under.is)
