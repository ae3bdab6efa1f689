use Rattle.ledger.proofs.Rooms.{entering-count, entering-bytes}
use native.Mathlib.Omega.{arith}
use Rattle.ledger.proofs.entered.Goals as goal

pub plus-requires : goal.plus-requires
plus-requires c = entering-count _ _ c.args.a _ c.place-at.ensures c.requires.0 (omega arith)

pub plus-requires-2 : goal.plus-requires-2
plus-requires-2 c = entering-bytes _ _ _ c.args.a _ c.args.n c.plus.ensures c.place-at.ensures
    c.requires.0 (omega arith)

pub returns : goal.returns
returns c = simp (c.plus-2.ensures, c.plus.ensures, c.place-at.ensures.0)
