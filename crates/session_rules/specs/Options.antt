-- What may be there or not: a presentation time, a layer field, the earliest fault of a frame, and why a frame that was ended was not delivered. And what is
-- answered, or refused by a number: opening, a report, close.
use Rattle.std.specs.Prelude.{ℕ, Option, Result}
use Rattle.session_rules.specs.declared.Reason.{Reason}

abbrev pub Stamp : Type 0
Stamp = Option ℕ

abbrev pub Layer : Type 0
Layer = Option ℕ

abbrev pub Fault : Type 0
Fault = Option Reason

abbrev pub Ended : Type 0
Ended = Option Reason

abbrev pub Start : Type 0
Start = Result (Unit {0}) ℕ

abbrev pub Report : Type 0
Report = Result (Unit {0}) ℕ

abbrev pub Closing : Type 0
Closing = Result Ended ℕ
