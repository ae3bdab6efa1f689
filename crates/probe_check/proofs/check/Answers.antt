use Rattle.probe_check.proofs.Checking.{check-41, check-own, check-42, check-43, check-on, number-room}
use Rattle.rules.proofs.Places.{seek, found_here, not-here, none_here}
use Rattle.streaming.proofs.Inside.{frames-held}
use native.Mathlib.Omega.{arith}
use mathlib.Core.Path.{refl, sym, ◌∙◌}
use Rattle.probe_check.proofs.check.Goals as goal

pub returns-then-asked-size_of : goal.returns-then-asked-size_of
returns-then-asked-size_of c = check-41 _ _ _ _ (λ e. c.if-asked-size_of.true (e ∙ sym c.size_of.ensures.0)) c.refused.ensures

pub returns-in-Err : goal.returns-in-Err
returns-in-Err c = check-own _ _ _ _ (c.if-asked-size_of.false ∙ c.size_of.ensures.0) _ c.read-a.ensures _ _
    c.in-Err.is refl

pub returns-then-format_missing : goal.returns-then-format_missing
returns-then-format_missing c = check-42 _ _ _ _ (c.if-asked-size_of.false ∙ c.size_of.ensures.0) _ c.read-a.ensures c.in_default.is _
    c.format_missing.ensures c.if-format_missing.true c.refused-then-format_missing.ensures

pub loop-i-init : goal.loop-i-init
loop-i-init c = (seek _ _, frames-held _ _ _ c.read-a.ensures c.in_default.is)

pub offset_bounds-a-i : goal.offset_bounds-a-i
offset_bounds-a-i c = let w = c.loop-i.invariant.1.few in omega arith

pub bounds-a-i : goal.bounds-a-i
bounds-a-i c = let w = c.loop-i.invariant.1.few in omega arith

pub has_number-requires : goal.has_number-requires
has_number-requires c = number-room c.args.block.now _ (c.loop-i.invariant.1.inside _ (omega arith))

pub check_frame-requires : goal.check_frame-requires
check_frame-requires c = (c.loop-i.invariant.1.inside _ (omega arith), (let l = c.if-asked-size_of.false in let h = c.size_of.ensures.1 in omega arith))

pub returns-then-has_number : goal.returns-then-has_number
returns-then-has_number c = check-on _ _ _ _ (c.if-asked-size_of.false ∙ c.size_of.ensures.0) _ c.read-a.ensures c.in_default.is _
    c.format_missing.ensures c.if-format_missing.false _
    (found_here _ _ _ c.loop-i.invariant.0 (omega arith) (sym c.has_number.ensures ∙ c.if-has_number.true))
    (omega arith) c.check_frame.ensures

pub loop-i-preserved : goal.loop-i-preserved
loop-i-preserved c = (not-here _ _ _ c.loop-i.invariant.0 (omega arith) (sym c.has_number.ensures ∙ c.if-has_number.false), c.loop-i.invariant.1)

pub returns : goal.returns
returns c = check-43 _ _ _ _ (c.if-asked-size_of.false ∙ c.size_of.ensures.0) _ c.read-a.ensures c.in_default.is _
    c.format_missing.ensures c.if-format_missing.false _ (none_here _ _ _ c.loop-i.invariant.0 (omega arith))
    (omega arith) c.refused-2.ensures
