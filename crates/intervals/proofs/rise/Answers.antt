use Rattle.intervals.proofs.Tests.{rest-start, none_left, not-rising, rising-on}
use Rattle.intervals.specs.Intervals.{rises}
use native.Mathlib.Omega.{arith}
use Rattle.intervals.proofs.rise.Goals as goal

pub loop-i-init : goal.loop-i-init
loop-i-init c = rest-start _ _ _ _

pub returns-then-interval-before : goal.returns-then-interval-before
returns-then-interval-before c = not-rising _ _ _ _ _ _ c.loop-i.invariant (omega arith) _ c.le32-interval.ensures c.if-interval-before.true

pub loop-i-preserved : goal.loop-i-preserved
loop-i-preserved c = rising-on _ _ _ _ _ _ c.loop-i.invariant (omega arith) _ c.le32-interval.ensures c.if-interval-before.false

pub returns : goal.returns
unfolding rises
returns c = none_left _ _ _ _ _ _ c.loop-i.invariant (omega arith)
