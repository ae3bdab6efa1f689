use native.Mathlib.Omega.{arith}
use Rattle.nearest.proofs.Choosing.{lowest, the_last, no-nearer, the-next, the-lower, rest_below, next-above}
use Rattle.nearest.proofs.closest.Goals as goal

pub returns-then-wanted-low : goal.returns-then-wanted-low
returns-then-wanted-low c = lowest _ _ _ _ c.if-wanted-low.true (omega arith)

pub overflow_sub-result-then-high-wanted : goal.overflow_sub-result-then-high-wanted
overflow_sub-result-then-high-wanted c = rest_below _ _ _ (omega arith)

pub returns-then-high-wanted : goal.returns-then-high-wanted
returns-then-high-wanted c = the_last _ _ _ _ (omega arith) (omega arith) c.if-high-wanted.true

pub overflow_sub-below-2 : goal.overflow_sub-below-2
overflow_sub-below-2 c = rest_below _ _ _ (omega arith)

pub returns-then-high-above : goal.returns-then-high-above
returns-then-high-above c = no-nearer _ _ _ _ _ (omega arith) (omega arith) (omega arith) (omega arith) c.if-high-above.true

pub overflow_sub-above : goal.overflow_sub-above
overflow_sub-above c = next-above _ _ _ (omega arith) (omega arith)

pub returns-then-above-wanted : goal.returns-then-above-wanted
returns-then-above-wanted c = the-next _ _ _ _ (omega arith) (omega arith) c.if-high-above.false c.if-above-wanted.true

pub returns : goal.returns
returns c = the-lower _ _ _ _ (omega arith) (omega arith) (omega arith) c.if-above-wanted.false
