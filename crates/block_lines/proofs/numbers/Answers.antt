use native.Mathlib.Omega.{arith}
use Rattle.text.proofs.Texts.{none}
use Rattle.entities.proofs.Finding.{length-of}
use Rattle.text.specs.Text.{number}
use Rattle.block_lines.proofs.Tables.{one_more, all-used, all-places}
use Rattle.block_lines.proofs.numbers.Goals as goal

pub loop-i-init : goal.loop-i-init
loop-i-init c = (search length-of, omega arith, omega arith, omega arith, none _ _ (omega arith))

pub returns-then-n-i : goal.returns-then-n-i
returns-then-n-i c = let both = all-used number 0 _ 32 _ _ c.if-n-i.true c.loop-i.invariant in record { put = both.0; upper_bound = both.1 }

pub loop-i-preserved : goal.loop-i-preserved
loop-i-preserved c = let printed = c.number-at in
    one_more number 0 _ 32 _ c.loop-i.i (omega arith) (omega arith) c.loop-i.invariant printed.ensures.put (let b = printed.ensures.upper_bound in omega arith)

pub returns : goal.returns
returns c = let both = all-places number 0 _ 32 _ _ (omega arith) c.loop-i.invariant in record { put = both.0; upper_bound = both.1 }
