use Rattle.session_rules.specs.Accounts.{ticks_at, backward_at}
use Rattle.ledger.proofs.Rooms.{adding}
use native.Mathlib.Omega.{arith}
use Rattle.ledger.proofs.stepped.Goals as goal

pub plus-requires : goal.plus-requires
plus-requires c = adding _ _ ticks_at _ c.requires (omega arith) (omega arith) (omega arith)

pub plus-requires-in-Backward : goal.plus-requires-in-Backward
plus-requires-in-Backward c = adding _ _ backward_at 1 c.requires (omega arith) (omega arith) (omega arith)

pub returns-in-Forward : goal.returns-in-Forward
returns-in-Forward c = simp (c.plus.ensures, c.in-Forward.is)

pub returns-in-Backward : goal.returns-in-Backward
returns-in-Backward c = simp (c.plus-in-Backward.ensures, c.in-Backward.is)
