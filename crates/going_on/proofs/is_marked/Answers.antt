use native.Mathlib.Omega.{arith}
use Rattle.going_on.specs.Bytes.{is_marked}
use Rattle.going_on.proofs.Checks.{asks, other-marks, past_end, within-transfer}
use Rattle.going_on.proofs.is_marked.Goals as goal

pub returns-then-n-lt2 : goal.returns-then-n-lt2
unfolding is_marked
returns-then-n-lt2 c = search asks depth 12

pub returns-then-payload-n : goal.returns-then-payload-n
unfolding is_marked
returns-then-payload-n c = search asks depth 12

pub returns-then-flags-marks : goal.returns-then-flags-marks
returns-then-flags-marks c = other-marks _ _ _ _ (omega arith) (omega arith) _ c.marks.ensures c.if-flags-marks.true

pub returns-then-n-from : goal.returns-then-n-from
returns-then-n-from c = past_end _ _ _ _ (omega arith) (omega arith) _ c.marks.ensures c.if-flags-marks.false _
    c.wide-from.ensures.0 c.if-n-from.true

pub overflow_cast-flags : goal.overflow_cast-flags
overflow_cast-flags c = omega (arith, c.type_inv.t 1)

pub returns : goal.returns
returns c = within-transfer _ _ _ _ (omega arith) (omega arith) _ c.marks.ensures c.if-flags-marks.false _
    c.wide-from.ensures.0 _ c.if-n-from.false c.old_too_short.ensures
