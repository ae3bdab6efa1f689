use mathlib.Core.Path.{sym, ◌∙◌}
use Rattle.text.proofs.Texts.{none}
use native.Mathlib.Omega.{arith}
use Rattle.configuration_text.proofs.Lines.{setting-more, settings-end, settings-full}
use Rattle.configuration_text.proofs.settings.Goals as goal

pub loop-i-init : goal.loop-i-init
loop-i-init c = record { within = omega arith; room = omega arith; put = none _ _ (omega arith) }

pub returns-in-None : goal.returns-in-None
returns-in-None c = let both = settings-end _ _ (sym c.kth.ensures ∙ c.in-None.is) c.loop-i.invariant in record { put = both.0; upper_bound = both.1 }

pub loop-i-preserved : goal.loop-i-preserved
loop-i-preserved c = setting-more _ _ _ (omega arith) (sym c.kth.ensures ∙ c.in-Some.is) c.loop-i.invariant c.setting-at.ensures.put c.setting-at.ensures.upper_bound

pub returns : goal.returns
returns c = let both = settings-full _ _ (omega arith) c.loop-i.invariant in record { put = both.0; upper_bound = both.1 }
