use native.Mathlib.Omega.{arith}
use Rattle.entities.proofs.Finding.{seek, none_left, none_more, here-at, not-here}
use Rattle.entities.proofs.find_among.Goals as goal

pub loop-i-init : goal.loop-i-init
loop-i-init c = search seek

pub returns-then-count-i : goal.returns-then-count-i
returns-then-count-i c = search none_left

pub returns-then-e-id : goal.returns-then-e-id
returns-then-e-id c = search here-at

pub loop-i-preserved : goal.loop-i-preserved
loop-i-preserved c = not-here _ _ _ _ c.loop-i.invariant _ (omega arith) (omega arith) c.if-e-id.false

pub returns : goal.returns
returns c = search none_more
