use Rattle.std.proofs.Common.{◌∙◌, ap, ℕ, length, min}
use Rattle.convert.proofs.Branches.{run-begins, run_ends, run_room, run_on}
use Rattle.convert.proofs.run.Goals as goal

pub loop-record-init : goal.loop-record-init
loop-record-init c =
    let e = c.into_iter-record-iterator.ensures.into_iter_gives in
    (rw e c.chunks-record-items.ensures.size, run-begins _ _ _ _ _ (rw e c.chunks-record-items.ensures.rest) c.requires)

pub one-w-requires : goal.one-w-requires
one-w-requires c =
    let s = c.in-Some.ensures.steps in
    let i = c.loop-record.invariant in
    run_room _ _ _ _ _ _ _ _ i.1 _ _ s.1.0 (s.1.1 ∙ ap (λ (n : ℕ). min n (length c.loop-record.record-iterator.rest.now)) i.0) s.1.2 c.requires

pub loop-record-preserved : goal.loop-record-preserved
loop-record-preserved c =
    let s = c.in-Some.ensures.steps in
    let i = c.loop-record.invariant in (
      s.0 ∙ i.0,
      run_on _ _ _ _ _ _ _ _ i.1 _ _ s.1.0 (s.1.1 ∙ ap (λ (n : ℕ). min n (length c.loop-record.record-iterator.rest.now)) i.0) s.1.2 _ _ _
          (c.one-w.ensures.converter_value, c.one-w.ensures.at_bound),
    )

pub returns : goal.returns
returns c =
    let s = c.in-None.ensures.steps in
    let both = run_ends _ _ _ _ _ _ _ _ c.loop-record.invariant.1 s.1.0 in
    record { converter_value = both.0; at_bound = both.1 }
