-- What is entered: a frame with its bytes, a transfer with its bytes, or a report.
use Rattle.std.specs.Prelude.{ℕ}
use Rattle.session_rules.specs.declared.Reason.{Reason}
use Rattle.session_rules.specs.declared.Delivery.{Delivery}

pub data Entry : Type 0 where
  Delivered : Delivery → Entry
  Still : Delivery → Entry
  Dropped : Reason → ℕ → Entry
  UnderWay : ℕ → Entry
  Stray : ℕ → Entry
  Unreadable : ℕ → Entry
  Headers : ℕ → Entry
  Lost : Entry
  Idle : Entry
