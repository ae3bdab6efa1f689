use Rattle.std.proofs.lemmas.Result.{err_from_is_err_and}
use Rattle.interfaces.proofs.Searching.{steps-in, next-falls}
use Rattle.configuration.proofs.Reading.{judging-starts, judging-ends, judging-stops, judging-on}
use Rattle.configuration.proofs.streams_verdict.Goals as goal

pub loop-at-init : goal.loop-at-init
loop-at-init c = search judging-starts

pub returns-in_err-block_verdict : goal.returns-in_err-block_verdict
returns-in_err-block_verdict c =
    let p = err_from_is_err_and c.from_residual.result c.from_residual.ensures.1 in
    rw (p.1, p.2) (judging-stops _ _ _ c.loop-at.invariant c.loop-at-test.true _ c.block_verdict.ensures _ c.in_err-block_verdict.was)

pub next-at-requires-in-loop-at : goal.next-at-requires-in-loop-at
next-at-requires-in-loop-at c = search steps-in

pub loop-at-smaller : goal.loop-at-smaller
loop-at-smaller c = search next-falls

pub loop-at-preserved : goal.loop-at-preserved
loop-at-preserved c = judging-on _ _ _ c.loop-at.invariant c.loop-at-test.true _ c.block_verdict.ensures _ c.in_ok-block_verdict.was _ _ c.after.ensures c.next-at-in-loop-at.ensures

pub returns : goal.returns
returns c = search judging-ends
