-- Document 02, Eight: "each operation on the record gives the record of the old result". The rest of the session goes by value beside the record: transfers taken, the last stamp, the
-- frame under way and the gap flag are not printed and not in it.
use Rattle.session_rules.specs.Options.{Report, Closing}
use Rattle.std.specs.Prelude.{ℕ, List, ◌∷◌, Bool, true, false, Err, Ok}
use Rattle.rules.specs.Numbered.{Row, row}
use Rattle.session_rules.specs.declared.Rest.{Rest}
use Rattle.session_rules.specs.declared.Session.{Session}
use Rattle.session_rules.specs.declared.Outcome.{Outcome}
use Rattle.session_rules.specs.declared.Taken.{Taken}
use Rattle.session_rules.specs.declared.Reported.{Reported}
use Rattle.session_rules.specs.declared.Closed.{Closed}
use Rattle.session.specs.declared.RestTaken.{RestTaken}
use Rattle.session.specs.declared.RestReported.{RestReported}
use Rattle.session.specs.declared.RestClosed.{RestClosed}
use Rattle.session_rules.specs.Refusals.{ledger_of, take_rows, lost_rows, close_rows}
use Rattle.session_rules.specs.Session.{take_of, buffer_of, lost_of, close_of}
use Rattle.session.specs.Inner.{whole_of}
use Rattle.places.specs.Places.{record_of, numbers_in, broken54}

-- THE SESSION of a record and the rest; THE RECORD of a session: the numbers that the ledger program would print of it now, in fixed places
abbrev pub session_of : List ℕ → Rest → Session
session_of r rest = whole_of rest (numbers_in r)

abbrev pub record_in : Session → List ℕ
record_in s = record_of (ledger_of s).numbers

-- what is left of a record: all as it was where the call is refused, and else the record of the session after it
abbrev pub left : Bool → List ℕ → Session → List ℕ
left true r s = r
left false r s = record_in s

-- WHAT REFUSES A CALL: 54 before 50, 53, 52, 51 and 55
abbrev pub take_rows54 : List ℕ → Rest → ℕ → ℕ → List Row
take_rows54 r rest room n = row 54 (broken54 r) ∷ take_rows (session_of r rest) room n

abbrev pub lost_rows54 : List ℕ → Rest → List Row
lost_rows54 r rest = row 54 (broken54 r) ∷ lost_rows (session_of r rest)

abbrev pub close_rows54 : List ℕ → Rest → List Row
close_rows54 r rest = row 54 (broken54 r) ∷ close_rows (session_of r rest)

-- TAKE: 54 first; then what the call on the ledger that the record holds answers
abbrev pub is_refused : Outcome → Bool
is_refused (Outcome.Refused k) = true
is_refused (Outcome.Taken a) = false
is_refused (Outcome.Handed x) = false

abbrev pub rest_taken : Taken → RestTaken
rest_taken x = record { rest = x.session.rest; outcome = x.outcome }

abbrev pub take_by : Bool → List ℕ → Rest → ℕ → List ℕ → RestTaken
take_by true r rest room t = record { rest = rest; outcome = Outcome.Refused 54 }
take_by false r rest room t = rest_taken (take_of (session_of r rest) room t)

abbrev pub take_left_by : Bool → List ℕ → Rest → ℕ → List ℕ → List ℕ
take_left_by true r rest room t = r
take_left_by false r rest room t = left (is_refused (take_of (session_of r rest) room t).outcome) r (take_of (session_of r rest) room t).session

abbrev pub take_buffer_by : Bool → List ℕ → Rest → List ℕ → List ℕ → List ℕ
take_buffer_by true r rest buffer t = buffer
take_buffer_by false r rest buffer t = buffer_of (session_of r rest) buffer t

unfoldable pub take_in : List ℕ → Rest → ℕ → List ℕ → RestTaken
take_in r rest room t = take_by (broken54 r) r rest room t

unfoldable pub take_left : List ℕ → Rest → ℕ → List ℕ → List ℕ
take_left r rest room t = take_left_by (broken54 r) r rest room t

unfoldable pub take_buffer : List ℕ → Rest → List ℕ → List ℕ → List ℕ
take_buffer r rest buffer t = take_buffer_by (broken54 r) r rest buffer t

-- LOST
abbrev pub is_refused_report : Report → Bool
is_refused_report (Err k) = true
is_refused_report (Ok _) = false

abbrev pub rest_reported : Reported → RestReported
rest_reported x = record { rest = x.session.rest; report = x.report }

abbrev pub lost_by : Bool → List ℕ → Rest → RestReported
lost_by true r rest = record { rest = rest; report = Err 54 }
lost_by false r rest = rest_reported (lost_of (session_of r rest))

abbrev pub lost_left_by : Bool → List ℕ → Rest → List ℕ
lost_left_by true r rest = r
lost_left_by false r rest = left (is_refused_report (lost_of (session_of r rest)).report) r (lost_of (session_of r rest)).session

unfoldable pub lost_in : List ℕ → Rest → RestReported
lost_in r rest = lost_by (broken54 r) r rest

unfoldable pub lost_left : List ℕ → Rest → List ℕ
lost_left r rest = lost_left_by (broken54 r) r rest

-- CLOSE
abbrev pub is_refused_closing : Closing → Bool
is_refused_closing (Err k) = true
is_refused_closing (Ok e) = false

abbrev pub rest_closed : Closed → RestClosed
rest_closed x = record { rest = x.session.rest; closing = x.closing }

abbrev pub close_by : Bool → List ℕ → Rest → RestClosed
close_by true r rest = record { rest = rest; closing = Err 54 }
close_by false r rest = rest_closed (close_of (session_of r rest))

abbrev pub close_left_by : Bool → List ℕ → Rest → List ℕ
close_left_by true r rest = r
close_left_by false r rest = left (is_refused_closing (close_of (session_of r rest)).closing) r (close_of (session_of r rest)).session

unfoldable pub close_in : List ℕ → Rest → RestClosed
close_in r rest = close_by (broken54 r) r rest

unfoldable pub close_left : List ℕ → Rest → List ℕ
close_left r rest = close_left_by (broken54 r) r rest
