use Rattle.templates.proofs.Pieces.{start-listing, thing-more, all_listed}
use native.Mathlib.Omega.{arith}
use Rattle.templates.proofs.list.Goals as goal

pub loop-i-init : goal.loop-i-init
loop-i-init c = start-listing _ _ _ _ _ _ _ _ (omega arith) (omega arith) (omega arith)

pub loop-i-preserved : goal.loop-i-preserved
loop-i-preserved c = thing-more (omega arith) (omega arith) (omega arith) c.loop-i.invariant c.render-at.ensures.put c.render-at.ensures.upper_bound

pub returns : goal.returns
returns c = let both = all_listed (omega arith) c.loop-i.invariant in record { put = both.0; upper_bound = both.1 }
