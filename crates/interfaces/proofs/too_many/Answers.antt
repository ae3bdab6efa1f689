use Rattle.interfaces.proofs.Searching.{falls}
use native.Mathlib.Omega.{arith}
use mathlib.Core.Path.{refl, ◌∙◌}
use Rattle.interfaces.proofs.Counting.{counting-starts, counting-done, counting-full, adds-listed, adds-seen, counting-on}
use Rattle.interfaces.proofs.too_many.Goals as goal

pub loop-at-init : goal.loop-at-init
loop-at-init c = search counting-starts

pub returns-then-one_too_many : goal.returns-then-one_too_many
returns-then-one_too_many c = counting-full _ _ _ _ c.loop-at.invariant c.loop-at-test.true _ c.wide-place.ensures.1
    (c.wide-place.ensures.0 ∙ c.byte_of-number.ensures) _ refl _ c.one_too_many.ensures c.if-one_too_many.true

pub overflow_add-listed : goal.overflow_add-listed
overflow_add-listed c = omega
    (arith, adds-listed _ _ _ _ c.loop-at.invariant c.loop-at-test.true _ c.wide-place.ensures.1 (c.wide-place.ensures.0 ∙ c.byte_of-number.ensures) _ refl _ c.one_too_many.ensures c.if-one_too_many.false _ _ c.one_if-listed.ensures c.is_sought.ensures)

pub overflow_add-counts : goal.overflow_add-counts
overflow_add-counts c = omega
    (arith, adds-seen _ _ _ _ c.loop-at.invariant c.loop-at-test.true _ c.wide-place.ensures.1 (c.wide-place.ensures.0 ∙ c.byte_of-number.ensures) _ refl _ c.one_too_many.ensures c.if-one_too_many.false _ _ _ c.one_if.ensures c.is_sought-in-loop-at.ensures c.wide-place.ensures.0)

pub loop-at-smaller : goal.loop-at-smaller
loop-at-smaller c = search falls

pub loop-at-preserved : goal.loop-at-preserved
loop-at-preserved c = counting-on _ _ _ _ c.loop-at.invariant c.loop-at-test.true _ c.wide-place.ensures.1
    (c.wide-place.ensures.0 ∙ c.byte_of-number.ensures) _ refl _ c.one_too_many.ensures c.if-one_too_many.false _ _ _
    c.one_if.ensures c.is_sought-in-loop-at.ensures c.wide-place.ensures.0 _ _ c.one_if-listed.ensures
    c.is_sought.ensures _ c.after-at.ensures

pub returns : goal.returns
returns c = search counting-done
