use Rattle.streaming.proofs.Going.{so-format, so-frame, format-room, frame-room, going-starts, going-stops, fine-here, going-format, going-frame, going-other, going-accepts, going-refuses}
use Rattle.streaming.proofs.Heads.{head-bad, head-good, block-sizes, none-broken, is-broken, not-zero}
use native.Mathlib.Omega.{arith}
use mathlib.Core.Path.{◌∙◌}
use Rattle.streaming.proofs.read.Goals as goal

pub returns-in-Err : goal.returns-in-Err
returns-in-Err c = head-bad _ _ _ c.head_rule-whole.ensures _ _ c.in-Err.is c.refused.ensures

pub bounds-block-8 : goal.bounds-block-8
bounds-block-8 c = omega (arith, block-sizes c.args.table _ _ c.head_rule-whole.ensures c.in_default.is)

pub loop-at-init : goal.loop-at-init
loop-at-init c = rw (c.no_format-no_format.ensures, c.no_frame-no_frame.ensures, c.no_counts-counts.ensures) (going-starts _ _)

pub bounds-counts-f : goal.bounds-counts-f
bounds-counts-f c = omega (arith, c.loop-at.invariant.formats-few)

pub rule_at-broken-requires : goal.rule_at-broken-requires
rule_at-broken-requires c = (c.loop-at-test.true, c.loop-at.invariant.formats-few)

pub returns-in-Err-broken : goal.returns-in-Err-broken
returns-in-Err-broken c = head-good _ _ _ c.head_rule-whole.ensures c.in_default.is _ _ c.is_linked-linked.ensures
    (c.refused-in-Err-broken.ensures ∙ going-stops _ _ _ _ _ _ _ _ _ c.loop-at.invariant _ c.loop-at-test.true (is-broken _ _ _ c.rule_at-broken.ensures c.in-Err-broken.is) (not-zero _ _ _ c.rule_at-broken.ensures c.in-Err-broken.is))

pub overflow_add-next : goal.overflow_add-next
overflow_add-next c = let w = (fine-here _ _ _ _ _ _ _ _ _ c.loop-at.invariant c.loop-at-test.true (none-broken _ _ c.rule_at-broken.ensures c.in_default-broken.is)) in omega (arith, c.wide.ensures, w.inside)

pub overflow_add-at : goal.overflow_add-at
overflow_add-at c = let w = (fine-here _ _ _ _ _ _ _ _ _ c.loop-at.invariant c.loop-at-test.true (none-broken _ _ c.rule_at-broken.ensures c.in_default-broken.is)) in omega (arith, w.inside, w.long)

pub bounds-block-at-in-loop-at : goal.bounds-block-at-in-loop-at
bounds-block-at-in-loop-at c = let w = (fine-here _ _ _ _ _ _ _ _ _ c.loop-at.invariant c.loop-at-test.true (none-broken _ _ c.rule_at-broken.ensures c.in_default-broken.is)) in omega (arith, w.inside, w.long)

pub format_at-e-requires : goal.format_at-e-requires
format_at-e-requires c = (rw c.kind_of-kind.ensures (format-room _ _ _ (fine-here _ _ _ _ _ _ _ _ _ c.loop-at.invariant c.loop-at-test.true (none-broken _ _ c.rule_at-broken.ensures c.in_default-broken.is)) (so-format _ _ _ _ c.kind_of-kind.ensures c.is_format.ensures c.if-is_format.true)), omega (arith, ((block-sizes c.args.table _ _ c.head_rule-whole.ensures c.in_default.is).1)))

pub offset_bounds-formats-f : goal.offset_bounds-formats-f
offset_bounds-formats-f c = let w = (fine-here _ _ _ _ _ _ _ _ _ c.loop-at.invariant c.loop-at-test.true (none-broken _ _ c.rule_at-broken.ensures c.in_default-broken.is)).fewer (so-format _ _ _ _ c.kind_of-kind.ensures c.is_format.ensures c.if-is_format.true) in omega arith

pub bounds-formats-f : goal.bounds-formats-f
bounds-formats-f c = (fine-here _ _ _ _ _ _ _ _ _ c.loop-at.invariant c.loop-at-test.true (none-broken _ _ c.rule_at-broken.ensures c.in_default-broken.is)).fewer (so-format _ _ _ _ c.kind_of-kind.ensures c.is_format.ensures c.if-is_format.true)

pub overflow_add-f : goal.overflow_add-f
overflow_add-f c = let w = (fine-here _ _ _ _ _ _ _ _ _ c.loop-at.invariant c.loop-at-test.true (none-broken _ _ c.rule_at-broken.ensures c.in_default-broken.is)).fewer (so-format _ _ _ _ c.kind_of-kind.ensures c.is_format.ensures c.if-is_format.true) in omega arith

pub loop-at-smaller-then-is_format : goal.loop-at-smaller-then-is_format
loop-at-smaller-then-is_format c = let w = (fine-here _ _ _ _ _ _ _ _ _ c.loop-at.invariant c.loop-at-test.true (none-broken _ _ c.rule_at-broken.ensures c.in_default-broken.is)) in omega (arith, w.inside, w.long, c.wide.ensures)

pub loop-at-preserved-then-is_format : goal.loop-at-preserved-then-is_format
loop-at-preserved-then-is_format c = rw c.wide.ensures.0
    (going-format _ _ _ _ _ _ _ _ _ c.loop-at.invariant c.loop-at-test.true (none-broken _ _ c.rule_at-broken.ensures c.in_default-broken.is) _ (so-format _ _ _ _ c.kind_of-kind.ensures c.is_format.ensures c.if-is_format.true) (rw c.kind_of-kind.ensures at c.format_at-e.ensures))

pub frame_at-e-requires : goal.frame_at-e-requires
frame_at-e-requires c =
    let w = (fine-here _ _ _ _ _ _ _ _ _ c.loop-at.invariant c.loop-at-test.true (none-broken _ _ c.rule_at-broken.ensures c.in_default-broken.is)) in
    record { at_in_bounds = (frame-room _ _ _ w (so-frame _ _ _ _ c.kind_of-kind.ensures c.is_frame.ensures c.if-is_frame.true), omega (arith, ((block-sizes c.args.table _ _ c.head_rule-whole.ensures c.in_default.is).1))); number_bound = omega (arith, c.loop-at.invariant.formats-few) }

pub offset_bounds-frames-n : goal.offset_bounds-frames-n
offset_bounds-frames-n c = let w = (fine-here _ _ _ _ _ _ _ _ _ c.loop-at.invariant c.loop-at-test.true (none-broken _ _ c.rule_at-broken.ensures c.in_default-broken.is)).few (so-frame _ _ _ _ c.kind_of-kind.ensures c.is_frame.ensures c.if-is_frame.true) in omega arith

pub bounds-frames-n : goal.bounds-frames-n
bounds-frames-n c = (fine-here _ _ _ _ _ _ _ _ _ c.loop-at.invariant c.loop-at-test.true (none-broken _ _ c.rule_at-broken.ensures c.in_default-broken.is)).few (so-frame _ _ _ _ c.kind_of-kind.ensures c.is_frame.ensures c.if-is_frame.true)

pub overflow_add-counts : goal.overflow_add-counts
overflow_add-counts c = let w = (fine-here _ _ _ _ _ _ _ _ _ c.loop-at.invariant c.loop-at-test.true (none-broken _ _ c.rule_at-broken.ensures c.in_default-broken.is)) in omega (arith, frame-room _ _ _ w (so-frame _ _ _ _ c.kind_of-kind.ensures c.is_frame.ensures c.if-is_frame.true), ((block-sizes c.args.table _ _ c.head_rule-whole.ensures c.in_default.is).1))

pub bounds-block-at-then-is_frame : goal.bounds-block-at-then-is_frame
bounds-block-at-then-is_frame c = let w = (fine-here _ _ _ _ _ _ _ _ _ c.loop-at.invariant c.loop-at-test.true (none-broken _ _ c.rule_at-broken.ensures c.in_default-broken.is)) in omega (arith, frame-room _ _ _ w (so-frame _ _ _ _ c.kind_of-kind.ensures c.is_frame.ensures c.if-is_frame.true))

pub bounds-counts-f-then-is_frame : goal.bounds-counts-f-then-is_frame
bounds-counts-f-then-is_frame c = omega (arith, c.loop-at.invariant.formats-few)

pub overflow_add-n : goal.overflow_add-n
overflow_add-n c = let w = (fine-here _ _ _ _ _ _ _ _ _ c.loop-at.invariant c.loop-at-test.true (none-broken _ _ c.rule_at-broken.ensures c.in_default-broken.is)).few (so-frame _ _ _ _ c.kind_of-kind.ensures c.is_frame.ensures c.if-is_frame.true) in omega arith

pub loop-at-smaller-then-is_frame : goal.loop-at-smaller-then-is_frame
loop-at-smaller-then-is_frame c = let w = (fine-here _ _ _ _ _ _ _ _ _ c.loop-at.invariant c.loop-at-test.true (none-broken _ _ c.rule_at-broken.ensures c.in_default-broken.is)) in omega (arith, w.inside, w.long, c.wide.ensures)

pub loop-at-preserved-then-is_frame : goal.loop-at-preserved-then-is_frame
loop-at-preserved-then-is_frame c = rw c.wide.ensures.0
    (going-frame _ _ _ _ _ _ _ _ _ c.loop-at.invariant c.loop-at-test.true (none-broken _ _ c.rule_at-broken.ensures c.in_default-broken.is) _ (so-format _ _ _ _ c.kind_of-kind.ensures c.is_format.ensures c.if-is_format.false) (so-frame _ _ _ _ c.kind_of-kind.ensures c.is_frame.ensures c.if-is_frame.true) (rw c.kind_of-kind.ensures at c.frame_at-e.ensures))

pub loop-at-smaller : goal.loop-at-smaller
loop-at-smaller c = let w = (fine-here _ _ _ _ _ _ _ _ _ c.loop-at.invariant c.loop-at-test.true (none-broken _ _ c.rule_at-broken.ensures c.in_default-broken.is)) in omega (arith, w.inside, w.long, c.wide.ensures)

pub loop-at-preserved : goal.loop-at-preserved
loop-at-preserved c = rw c.wide.ensures.0
    (going-other _ _ _ _ _ _ _ _ _ c.loop-at.invariant c.loop-at-test.true (none-broken _ _ c.rule_at-broken.ensures c.in_default-broken.is) (so-format _ _ _ _ c.kind_of-kind.ensures c.is_format.ensures c.if-is_format.false) (so-frame _ _ _ _ c.kind_of-kind.ensures c.is_frame.ensures c.if-is_frame.false))

pub bounds-block-3 : goal.bounds-block-3
bounds-block-3 c = omega (arith, (block-sizes c.args.table _ _ c.head_rule-whole.ensures c.in_default.is).0)

pub late_verdict-verdict-requires : goal.late_verdict-verdict-requires
late_verdict-verdict-requires c = omega (arith, c.loop-at.invariant.formats-few)

pub returns-in-Err-verdict : goal.returns-in-Err-verdict
returns-in-Err-verdict c = head-good _ _ _ c.head_rule-whole.ensures c.in_default.is _ _ c.is_linked-linked.ensures
    (c.refused-in-Err-verdict.ensures ∙ going-refuses _ _ _ _ _ _ _ _ _ c.loop-at.invariant c.loop-at-test.false _ c.late_verdict-verdict.ensures _ _ c.in-Err-verdict.is)

pub bounds-block-6 : goal.bounds-block-6
bounds-block-6 c = omega (arith, (block-sizes c.args.table _ _ c.head_rule-whole.ensures c.in_default.is).0)

pub bounds-block-8-2 : goal.bounds-block-8-2
bounds-block-8-2 c = omega (arith, (block-sizes c.args.table _ _ c.head_rule-whole.ensures c.in_default.is).0)

pub returns : goal.returns
returns c = head-good _ _ _ c.head_rule-whole.ensures c.in_default.is _ _ c.is_linked-linked.ensures
    (going-accepts _ _ _ _ _ _ _ _ _ c.loop-at.invariant c.loop-at-test.false _ c.late_verdict-verdict.ensures c.in_default-verdict.is)
