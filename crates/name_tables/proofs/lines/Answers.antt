use native.Mathlib.Omega.{arith}
use borrow.Author.Rules.{rules}
use Rattle.name_tables.proofs.Each.{begin, in-numbers, line-fits, line-more, all}
use Rattle.name_tables.proofs.lines.Goals as goal

pub loop-count-init : goal.loop-count-init
loop-count-init c = begin _ _ _ _ _ (omega arith) (search rules)

pub overflow_add-to : goal.overflow_add-to
overflow_add-to c = let l = c.loop-count.invariant in omega (arith, in-numbers l (omega arith))

pub slice_bounds-line-end-in-loop-count : goal.slice_bounds-line-end-in-loop-count
slice_bounds-line-end-in-loop-count c = search in-numbers

pub line-at-requires : goal.line-at-requires
line-at-requires c = search line-fits

pub loop-count-preserved : goal.loop-count-preserved
loop-count-preserved c = search line-more

pub returns : goal.returns
returns c = record { put = search all; upper_bound = omega arith }
