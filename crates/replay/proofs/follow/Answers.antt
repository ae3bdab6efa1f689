use mathlib.Core.Path.{◌∙◌}
use Rattle.replay.proofs.Records.{fits_said, one-leads, one-text, positive, follow-begins, follow-room, follow-decides, follow-on, follow-ends}
use borrow.Author.Rules.{rules}
use native.Mathlib.Omega.{arith}
use Rattle.replay.proofs.follow.Goals as goal

pub chunks-record-items-requires : goal.chunks-record-items-requires
chunks-record-items-requires c = let p = positive c.args.form in omega (arith, p, c.size.ensures)

pub loop-record-init : goal.loop-record-init
loop-record-init c =
    let e = c.into_iter-record-iterator.ensures.into_iter_gives in (
      rw e (omega (arith, c.chunks-record-items.ensures.size, c.size.ensures)),
      follow-begins _ _ _ _ _ _ _ _ _ (rw e c.chunks-record-items.ensures.rest) c.requires (search rules),
    )

pub step-going-requires : goal.step-going-requires
step-going-requires c = c.loop-record.invariant.1.places

pub put_lines-lines-requires : goal.put_lines-lines-requires
put_lines-lines-requires c = (fits_said _ _ _ _ c.step-going.ensures.said_value, follow-room _ _ _ _ _ _ _ _ _ _ _ _ c.loop-record.invariant.1 c.in-Some.ensures.steps.1.2 c.requires)

pub shape_of-out-then-decided : goal.shape_of-out-then-decided
shape_of-out-then-decided c = c.put_lines-lines.ensures.put.size ∙ c.loop-record.invariant.1.put.size

pub returns-then-decided : goal.returns-then-decided
returns-then-decided c =
    let s = c.in-Some.ensures.steps in
    follow-decides _ _ _ _ _ _ _ _ _ _ _ _ c.loop-record.invariant.1 _ _ _ c.loop-record.invariant.0 s.1.0 s.1.1 s.1.2 _ _ _ _ _ _
    (one-leads _ _ _ _ _ _ c.step-going.result _ _ c.step-going.ensures.m_after c.step-going.ensures.said_value c.put_lines-lines.ensures.counted_value.0)
    (one-text _ _ _ _ _ _ c.step-going.result c.step-going.ensures.said_value c.put_lines-lines.ensures.put)
    c.put_lines-lines.ensures.counted_value.1 _ c.decided.ensures c.if-decided.true

pub loop-record-preserved : goal.loop-record-preserved
loop-record-preserved c =
    let s = c.in-Some.ensures.steps in (
      s.0 ∙ c.loop-record.invariant.0,
      follow-on _ _ _ _ _ _ _ _ _ _ _ _ c.loop-record.invariant.1 _ _ _ c.loop-record.invariant.0 s.1.0 s.1.1 s.1.2 _ _ _ _ _ _
          (one-leads _ _ _ _ _ _ c.step-going.result _ _ c.step-going.ensures.m_after c.step-going.ensures.said_value c.put_lines-lines.ensures.counted_value.0)
          (one-text _ _ _ _ _ _ c.step-going.result c.step-going.ensures.said_value c.put_lines-lines.ensures.put)
          c.put_lines-lines.ensures.counted_value.1 _ c.decided.ensures c.if-decided.false,
    )

pub shape_of-out : goal.shape_of-out
shape_of-out c = c.loop-record.invariant.1.put.size

pub returns : goal.returns
returns c = follow-ends _ _ _ _ _ _ _ _ _ _ _ _ c.loop-record.invariant.1 c.in-None.ensures.steps.1.0
