use Rattle.ledger.proofs.Lent.{with-ended}
use Rattle.ledger.proofs.Rooms.{room-up, room-ended}
use native.Mathlib.Omega.{arith}
use Rattle.ledger.proofs.answered.Goals as goal

pub ended-requires : goal.ended-requires
ended-requires c = (room-up _ _ _ c.requires.0 (omega arith), c.requires.1)

pub fated-requires : goal.fated-requires
fated-requires c = (
  rw c.ended.ensures (room-ended _ _ _ c.args.a.ended _ c.requires.0
      c.requires.1 (omega arith)),
  c.requires.2,
)

pub returns : goal.returns
returns c = simp (c.fated.ensures, c.ended.ensures, with-ended)
