-- The record put together after a call.
use mathlib.Core.Path.{◌≡◌}
use mathlib.Core.List.{List}
use Prim.Native.Nat.{ℕ}
use Rattle.session_rules.specs.declared.Session.{Session}
use Rattle.session_rules.specs.declared.Taken.{Taken}
use Rattle.session_rules.specs.declared.Reported.{Reported}
use Rattle.session_rules.specs.declared.Closed.{Closed}
use Rattle.session.specs.declared.RestTaken.{RestTaken}
use Rattle.session.specs.declared.RestReported.{RestReported}
use Rattle.session.specs.declared.RestClosed.{RestClosed}
use Rattle.session.specs.Inner.{whole_of, taken_with, reported_with, closed_with}

module _ (w : Session) (m : List ℕ) where
  pub whole-taken : (x : RestTaken) (y : Taken) → w ≡ whole_of x.rest m → taken_with x m ≡ y → record { session = w; outcome = x.outcome } ≡ y
  whole-taken x y e p = rw e p

  pub whole-reported : (x : RestReported) (y : Reported) → w ≡ whole_of x.rest m → reported_with x m ≡ y → record { session = w; report = x.report } ≡ y
  whole-reported x y e p = rw e p

  pub whole-closed : (x : RestClosed) (y : Closed) → w ≡ whole_of x.rest m → closed_with x m ≡ y → record { session = w; closing = x.closing } ≡ y
  whole-closed x y e p = rw e p
