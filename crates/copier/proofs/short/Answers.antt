use native.Mathlib.Omega.{arith}
use Rattle.copier.proofs.Moves.{four}
use Rattle.copier.proofs.short.Goals as goal

pub returns : goal.returns
returns c = four c.args.part.now c.args.src.now _ _ _ _ _
    c.moved.ensures
    c.moved-2.ensures
    c.moved-3.ensures
    c.moved-4.ensures c.requires.2 (omega arith) (omega arith) (omega arith)
