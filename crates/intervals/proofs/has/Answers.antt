use Rattle.intervals.proofs.Tests.{rest-start, none_left, here-among, among-on}
use Rattle.intervals.specs.Intervals.{among}
use native.Mathlib.Omega.{arith}
use Rattle.intervals.proofs.has.Goals as goal

pub loop-i-init : goal.loop-i-init
loop-i-init c = rest-start _ _ _ _

pub returns-then-le32-x : goal.returns-then-le32-x
returns-then-le32-x c = here-among _ _ _ _ _ _ c.loop-i.invariant (omega arith) _ c.le32.ensures c.if-le32-x.true

pub loop-i-preserved : goal.loop-i-preserved
loop-i-preserved c = among-on _ _ _ _ _ _ c.loop-i.invariant (omega arith) _ c.le32.ensures c.if-le32-x.false

pub returns : goal.returns
unfolding among
returns c = none_left _ _ _ _ _ _ c.loop-i.invariant (omega arith)
