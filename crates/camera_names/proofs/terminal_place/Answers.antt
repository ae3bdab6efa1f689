use Rattle.camera_names.specs.Names.{terminal_place}
use borrow.Author.Tests.{eq-eqb, ne_eqb}
use native.Mathlib.Omega.{arith}
use Rattle.rules.proofs.Places.{seek, found_here, not-here, none_here}
use Rattle.camera_names.proofs.terminal_place.Goals as goal

pub loop-i-init : goal.loop-i-init
loop-i-init c = seek _ _

pub returns-then-types-i : goal.returns-then-types-i
unfolding terminal_place
returns-then-types-i c = found_here _ _ _ c.loop-i.invariant (omega arith) (eq-eqb _ _ c.if-types-i.true)

pub loop-i-preserved : goal.loop-i-preserved
loop-i-preserved c = not-here _ _ _ c.loop-i.invariant (omega arith) (ne_eqb _ _ c.if-types-i.false)

pub returns : goal.returns
unfolding terminal_place
returns c = none_here _ _ _ c.loop-i.invariant (omega arith)
