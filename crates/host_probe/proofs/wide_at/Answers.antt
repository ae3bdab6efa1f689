use Rattle.host_probe.proofs.Steps.{differ, agree}
use Rattle.rules.proofs.Places.{seek, found_here, not-here, none_here}
use native.Mathlib.Omega.{arith}
use Rattle.host_probe.proofs.wide_at.Goals as goal

pub loop-i-init : goal.loop-i-init
loop-i-init c = seek _ _

pub returns-then-from-i : goal.returns-then-from-i
returns-then-from-i c = found_here _ _ _ c.loop-i.invariant (omega arith) (differ _ _ c.if-from-i.true)

pub loop-i-preserved : goal.loop-i-preserved
loop-i-preserved c = not-here _ _ _ c.loop-i.invariant (omega arith) (agree _ _ c.if-from-i.false)

pub returns : goal.returns
returns c = none_here _ _ _ c.loop-i.invariant (omega arith)
