use Rattle.rules.proofs.Places.{seek, found_here, not-here, none_here}
use Rattle.streaming.proofs.Late.{count-differs, count-agrees}
use native.Mathlib.Omega.{arith}
use Rattle.streaming.proofs.first_count.Goals as goal

pub loop-i-init : goal.loop-i-init
loop-i-init c = seek _ _

pub returns-then-f-counts : goal.returns-then-f-counts
returns-then-f-counts c = found_here _ _ _ c.loop-i.invariant (omega arith) (count-differs _ _ c.if-f-counts.true)

pub loop-i-preserved : goal.loop-i-preserved
loop-i-preserved c = not-here _ _ _ c.loop-i.invariant (omega arith) (count-agrees _ _ c.if-f-counts.false)

pub returns : goal.returns
returns c = none_here _ _ _ c.loop-i.invariant (omega arith)
