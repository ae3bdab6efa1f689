use native.Mathlib.Omega.{arith}
use Rattle.ledger_text.specs.Report.{room}
use Rattle.text.proofs.Whole.{short, whole}
use Rattle.ledger_text.proofs.shut.Goals as goal

pub returns-then-buf-lt-ROOM : goal.returns-then-buf-lt-ROOM
returns-then-buf-lt-ROOM c = let both = short room _ _ c.if-buf-lt-ROOM.true in record { value = both.0; buf_after = both.1.0; prefix_len = both.1.1 }

pub returns : goal.returns
returns c = let both = whole room _ (omega arith) c.shut_text.ensures in record { value = both.0; buf_after = both.1.0; prefix_len = both.1.1 }
