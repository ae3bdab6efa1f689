use native.Mathlib.Omega.{arith}
use Rattle.arguments.proofs.Spelling.{no-digits, spelling, below-digits, above-digits, too_large, one_more, spelt-all}
use Rattle.arguments.proofs.read.Goals as goal

pub returns-then-word-eq0 : goal.returns-then-word-eq0
returns-then-word-eq0 c = no-digits _ _ c.if-word-eq0.true

pub loop-d-init : goal.loop-d-init
loop-d-init c = spelling _ _ c.if-word-eq0.false

pub returns-then-d-lt48 : goal.returns-then-d-lt48
returns-then-d-lt48 c = below-digits _ _ _ _ c.loop-d.invariant (omega arith) c.if-d-lt48.true

pub returns-then-d-gt57 : goal.returns-then-d-gt57
returns-then-d-gt57 c = above-digits _ _ _ _ c.loop-d.invariant (omega arith) (omega arith) (omega arith)

pub returns-then-most-value : goal.returns-then-most-value
returns-then-most-value c = too_large _ _ _ _ c.loop-d.invariant (omega arith) (omega arith) (omega arith) (omega arith)

pub loop-d-preserved : goal.loop-d-preserved
loop-d-preserved c = one_more _ _ _ _ c.loop-d.invariant (omega arith) (omega arith) (omega arith) (omega arith)

pub returns : goal.returns
returns c = spelt-all _ _ _ _ c.loop-d.invariant (omega arith)
