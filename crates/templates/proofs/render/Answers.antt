use Rattle.templates.proofs.Pieces.{start-rendering, piece-fits, piece-more, inside, nearer, all-rendered}
use native.Mathlib.Omega.{arith}
use borrow.Author.Rules.{rules}
use Rattle.templates.proofs.render.Goals as goal

pub loop-i-init : goal.loop-i-init
loop-i-init c = start-rendering _ _ _ _ _ _ (omega arith)

pub piece-at-requires : goal.piece-at-requires
piece-at-requires c = search (piece-fits, rules)

pub overflow_add-i : goal.overflow_add-i
overflow_add-i c = omega (arith, inside _ _ _ c.loop-i-test.true c.length_at-i.ensures)

pub loop-i-smaller : goal.loop-i-smaller
loop-i-smaller c = search (nearer, rules)

pub loop-i-preserved : goal.loop-i-preserved
loop-i-preserved c = piece-more c.loop-i.invariant c.loop-i-test.true c.piece-at.ensures.put c.piece-at.ensures.upper_bound c.length_at-i.ensures

pub returns : goal.returns
returns c = let both = all-rendered c.loop-i.invariant c.loop-i-test.false in record { put = both.0; upper_bound = both.1 }
