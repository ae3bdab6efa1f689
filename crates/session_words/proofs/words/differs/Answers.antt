use Rattle.session_words.proofs.Differ.{some-differs, no_difference, none-differs}
use borrow.Author.Count.{below_more}
use native.Mathlib.Omega.{arith}
use Rattle.session_words.proofs.words.differs.Goals as goal

pub loop-k-init : goal.loop-k-init
loop-k-init c = λ j h. absurd (omega arith)

pub returns-then-w-k : goal.returns-then-w-k
returns-then-w-k c = some-differs c.args.w.now c.args.x.now c.args.n c.loop-k.k (omega arith) c.if-w-k.true

pub loop-k-preserved : goal.loop-k-preserved
loop-k-preserved c = below_more _ _ c.loop-k.invariant (no_difference c.args.w.now c.args.x.now c.loop-k.k c.if-w-k.false)

pub returns : goal.returns
returns c = none-differs c.args.w.now c.args.x.now c.args.n (λ j h. c.loop-k.invariant j (omega arith))
