use mathlib.Core.Logic.{inl, inr}
use Rattle.frames.proofs.Turns.{out-fresh, out-past}
use Rattle.session_rules.specs.Turns.{out_of}
use Rattle.frames.proofs.hand_out.Goals as goal

pub returns-in-Fresh : goal.returns-in-Fresh
returns-in-Fresh c = elim c.in-Fresh.is [ inl e ↦ out-fresh c.args.track e | inr e ↦ out-past c.args.track _ e.1 ]

pub returns-in-Under : goal.returns-in-Under
unfolding out_of
returns-in-Under c = simp c.in-Under.is
