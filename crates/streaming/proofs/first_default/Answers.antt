use Rattle.rules.proofs.Places.{seek, found_here, not-here, none_here}
use native.Mathlib.Omega.{arith}
use mathlib.Core.Path.{sym, ◌∙◌}
use Rattle.streaming.proofs.first_default.Goals as goal

pub loop-i-init : goal.loop-i-init
loop-i-init c = seek _ _

pub returns-then-default_broken : goal.returns-then-default_broken
returns-then-default_broken c = found_here _ _ _ c.loop-i.invariant (omega arith) (sym c.default_broken.ensures ∙ c.if-default_broken.true)

pub loop-i-preserved : goal.loop-i-preserved
loop-i-preserved c = not-here _ _ _ c.loop-i.invariant (omega arith) (sym c.default_broken.ensures ∙ c.if-default_broken.false)

pub returns : goal.returns
returns c = none_here _ _ _ c.loop-i.invariant (omega arith)
