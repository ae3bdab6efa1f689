use native.Mathlib.Omega.{arith}
use Rattle.nearest.proofs.Words.{gives-92, gives-93, some-step, gives_moved}
use Rattle.nearest.proofs.nearest.Goals as goal

pub returns-then-high-low : goal.returns-then-high-low
returns-then-high-low c = gives-92 _ _ _ _ _ (omega arith) (omega arith) (omega arith) (omega arith) _ (rw (c.shift-high.ensures.0, c.shift-low.ensures.0) at c.if-high-low.true) c.refused.ensures

pub returns-then-shift : goal.returns-then-shift
returns-then-shift c = gives-93 _ _ _ _ _ (omega arith) (omega arith) (omega arith) (omega arith) (rw (c.shift-low.ensures.0, c.shift-high.ensures.0) at c.if-high-low.false) _ (rw (c.shift.ensures.0, c.shift-2.ensures.0) at c.if-shift.true) c.refused-then-shift.ensures

pub closest-place-requires : goal.closest-place-requires
closest-place-requires c = let s = some-step _ _ (omega arith) (rw (c.shift-2.ensures.0, c.shift.ensures.0) at c.if-shift.false) in
    omega arith

pub returns : goal.returns
returns c = gives_moved _ _ _ _ _ (omega arith) (omega arith) (omega arith) (omega arith) (rw (c.shift-low.ensures.0, c.shift-high.ensures.0) at c.if-high-low.false) (rw (c.shift-2.ensures.0, c.shift.ensures.0) at c.if-shift.false) _
    (rw (c.shift-low.ensures.0, c.shift-high.ensures.0, c.shift-3.ensures.0) at c.closest-place.ensures) (omega arith) _ (rw c.shift-4.ensures.0)
