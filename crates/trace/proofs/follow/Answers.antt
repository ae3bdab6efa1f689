use Rattle.records.proofs.Records.{some_size}
use Rattle.trace.proofs.Runs.{run-begins, run-decided, run_on, run_ends}
use mathlib.Core.Path.{refl, ap, ◌∙◌}
use Prim.Native.Nat.{ℕ, min}
use lib.ListN.{length}
use borrow.Author.Rules.{rules}
use native.Mathlib.Omega.{arith}
use Rattle.trace.proofs.follow.Goals as goal

pub chunks-record-items-requires : goal.chunks-record-items-requires
chunks-record-items-requires c = let p = some_size c.args.form in omega (arith, p, c.size.ensures)

pub loop-record-init : goal.loop-record-init
loop-record-init c =
    let e = c.into_iter-record-iterator.ensures.into_iter_gives in (
      rw e (omega (arith, c.chunks-record-items.ensures.size, c.size.ensures)),
      run-begins c.args.form _ c.args.records.now _ _ _ refl (rw e c.chunks-record-items.ensures.rest) (search rules),
    )

pub step-going-requires : goal.step-going-requires
step-going-requires c = c.loop-record.invariant.1.sized

pub returns-then-decided : goal.returns-then-decided
returns-then-decided c =
    let s = c.in-Some.ensures.steps in
    let i = c.loop-record.invariant in
    let x = c.step-going in
    run-decided c.args.form _ c.args.records.now _ _ _ i.1 _ _ s.1.0 (s.1.1 ∙ ap (λ (n : ℕ). min n (length c.loop-record.record-iterator.rest.now)) i.0) s.1.2
    x.result _ x.ensures.m_after _ c.decided.ensures c.if-decided.true

pub loop-record-preserved : goal.loop-record-preserved
loop-record-preserved c =
    let s = c.in-Some.ensures.steps in
    let i = c.loop-record.invariant in
    let x = c.step-going in (
      s.0 ∙ i.0,
      run_on c.args.form _ c.args.records.now _ _ _ i.1 _ _ s.1.0 (s.1.1 ∙ ap (λ (n : ℕ). min n (length c.loop-record.record-iterator.rest.now)) i.0) s.1.2
          x.result _ x.ensures.m_after _ c.decided.ensures c.if-decided.false,
    )

pub returns : goal.returns
returns c = run_ends c.args.form _ c.args.records.now _ _ _ c.loop-record.invariant.1 c.in-None.ensures.steps.1.0
