-- What each operation by value leaves, put together.
use Prim.Native.Nat.{ℕ}
use mathlib.Core.Path.{◌≡◌}
use mathlib.Core.List.{List}
use Rattle.session_rules.specs.declared.Rest.{Rest}
use Rattle.session.specs.declared.RestTaken.{RestTaken}
use Rattle.session.specs.declared.RestReported.{RestReported}
use Rattle.session.specs.declared.RestClosed.{RestClosed}
use Rattle.ledger_record.specs.Recorded.{take_in, take_left, lost_in, lost_left, close_in, close_left}
use Rattle.ledger_lent.specs.Lent.{taken_of, reported_of, closed_of}

pub taken_is : (r : List ℕ) (rest : Rest) (room : ℕ) (t : List ℕ) (x : RestTaken) (s : List ℕ) → x ≡ take_in r rest room t → s ≡ take_left r rest room t → record { bytes = s; taken = x } ≡ taken_of r rest room t
unfolding taken_of
taken_is r rest room t x s e f = λ i. record { bytes = f i; taken = e i }

pub reported-is : (r : List ℕ) (rest : Rest) (x : RestReported) (s : List ℕ) → x ≡ lost_in r rest → s ≡ lost_left r rest → record { bytes = s; reported = x } ≡ reported_of r rest
unfolding reported_of
reported-is r rest x s e f = λ i. record { bytes = f i; reported = e i }

pub closed_is : (r : List ℕ) (rest : Rest) (x : RestClosed) (s : List ℕ) → x ≡ close_in r rest → s ≡ close_left r rest → record { bytes = s; closed = x } ≡ closed_of r rest
unfolding closed_of
closed_is r rest x s e f = λ i. record { bytes = f i; closed = e i }
