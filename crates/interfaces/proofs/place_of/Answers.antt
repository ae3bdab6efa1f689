use borrow.Author.Tests.{eq-eqb, ne_eqb}
use native.Mathlib.Omega.{arith}
use Rattle.rules.proofs.Places.{seek, found_here, not-here, none_here}
use Rattle.interfaces.proofs.place_of.Goals as goal

pub loop-i-init : goal.loop-i-init
loop-i-init c = seek _ _

pub returns-then-streams-i : goal.returns-then-streams-i
returns-then-streams-i c = found_here _ _ _ c.loop-i.invariant (omega arith) (eq-eqb _ _ c.if-streams-i.true)

pub loop-i-preserved : goal.loop-i-preserved
loop-i-preserved c = not-here _ _ _ c.loop-i.invariant (omega arith) (ne_eqb _ _ c.if-streams-i.false)

pub returns : goal.returns
returns c = none_here _ _ _ c.loop-i.invariant (omega arith)
