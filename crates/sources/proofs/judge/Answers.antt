use Rattle.entities.proofs.Finding.{length-of}
use native.Mathlib.Omega.{arith}
use Rattle.sources.proofs.Judging.{judging, judge-more, judged-13, judged-14, judged-15, judged-fine}
use Rattle.sources.proofs.judge.Goals as goal

pub loop-i-init : goal.loop-i-init
loop-i-init c = judging _ _ (search length-of)

pub returns-then-l : goal.returns-then-l
returns-then-l c = let l = c.loop-i in
    judged-13 _ c.args.t _ _ _ c.requires l.invariant (omega arith) _ _ _ c.gather-l.ensures c.if-l.true

pub loop-i-preserved : goal.loop-i-preserved
loop-i-preserved c = let l = c.loop-i in
    rw c.first_of-output.ensures (judge-more _ c.args.t _ _ _ c.requires l.invariant (omega arith) _ _ _ c.gather-l.ensures c.if-l.false)

pub returns-then-output-n : goal.returns-then-output-n
returns-then-output-n c = let l = c.loop-i in
    judged-14 _ c.args.t _ _ _ c.requires l.invariant (omega arith) (omega arith)

pub returns-then-start-n : goal.returns-then-start-n
returns-then-start-n c = let l = c.loop-i in
    judged-15 _ c.args.t _ _ _ c.requires l.invariant (omega arith) (omega arith) _ c.first_loop-start.ensures (omega arith)

pub returns : goal.returns
returns c = let l = c.loop-i in
    judged-fine _ c.args.t _ _ _ c.requires l.invariant (omega arith) (omega arith) _ c.first_loop-start.ensures (omega arith)
