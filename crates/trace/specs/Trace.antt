-- Document 01, "The ledger program", and document 02, Thirteen: a whole trace, record by record, and what is printed of it.
use Rattle.session_rules.specs.Options.{Start}
use Rattle.std.specs.Prelude.{ℕ, zero, suc, ◌+◌, List, [], ◌∷◌, Bool, true, false, ◌||◌, length, replicate, Err, Ok}
use Rattle.sizes.specs.declared.Opening.{Opening}
use Rattle.sizes.specs.declared.HeaderKind.TheVariants.{Old}
use Rattle.session_rules.specs.Ledger.{no_ledger}
use Rattle.session_rules.specs.declared.Session.{Session}
use Rattle.session_rules.specs.declared.Opened.{Opened}
use Rattle.session_rules.specs.Refusals.{ledger_of}
use Rattle.session_rules.specs.Session.{fresh, open_of, take_of, close_of}
use Rattle.records.specs.declared.Form.{Form}
use Rattle.records.specs.Record.{record_bad}
use Rattle.trace.specs.Record.{record_ask}
use Rattle.trace.specs.declared.State.{State}
use Rattle.trace.specs.declared.State.TheVariants.{Good, Bad, Refused}
use Rattle.trace.specs.declared.Trace.{Trace}
use Rattle.trace.specs.declared.Begun.{Begun}
use Rattle.trace.specs.declared.Said.{Said}
use Rattle.trace.specs.declared.Printed.{Printed}
use Rattle.session_rules.specs.Call.{Ask}
use Rattle.session_rules.specs.Calls.{Offer, refusal, next, offer_with}

-- WHAT A TRACE IS READ WITH. Framing 3, so that frames end by EOF, and the old kind of header; the ledger program: frame size 256, payload size 62
abbrev pub ledger_sizes : Opening
ledger_sizes = record { frame = 256; payload = 62; framing = 3; kind = Old }

-- a replay: 61,440 and 3,072
abbrev pub replay_sizes : Opening
replay_sizes = record { frame = 61_440; payload = 3_072; framing = 3; kind = Old }

-- A TRACE OF NO RECORDS, of a session that is open
abbrev pub new_trace : Opening → Trace
new_trace o = record { session = fresh o; state = Good }

-- what opening it answers, with room for one frame: refused by 45 or 46, or open
abbrev pub begun_by : Opened → Begun
begun_by x = record { trace = record { session = x.session; state = Good }; start = x.start }

abbrev pub begin_of : Opening → Begun
begin_of o = begun_by (open_of o o.frame)

-- what stands there, by whether the frame size is 0 or over 16,777,216 and the payload size under 2 or over 65,536
abbrev pub start_by : Bool → Bool → Start
start_by true b = Err 45
start_by false true = Err 46
start_by false false = Ok tt

-- the next record's number, from 1: one for each transfer and report taken, and one for close
abbrev pub closes : Bool → ℕ
closes true = 2
closes false = 1

abbrev pub number_of : Session → ℕ
number_of s = s.rest.taken + closes s.rest.closed

-- A CALL, with room for one frame: only the ledger is wanted, so what the room holds is nowhere said
abbrev pub room_for : Opening → List ℕ
room_for o = replicate o.frame 0

abbrev pub offer_of : Session → Ask → Offer
offer_of s c = offer_with (room_for s.rest.opening) c

-- a good record's call: taken, with the next session, or refused by a number
abbrev pub offered : ℕ → Session → Session → Trace
offered zero s n = record { session = n; state = Good }
offered (suc k) s n = record { session = s; state = Refused (suc k) (number_of s) }

abbrev pub read_call : Session → Ask → Trace
read_call s c = offered (refusal s (offer_of s c)) s (next s (offer_of s c))

-- a bad record, or anything after close: bad
abbrev pub read_by : Bool → Session → Ask → Trace
read_by true s c = record { session = s; state = Bad (number_of s) }
read_by false s c = read_call s c

abbrev pub step_by : State → Form → Session → List ℕ → Trace
step_by Good f s r = read_by (s.rest.closed || record_bad f r) s (record_ask f r)
step_by (Bad n) f s r = record { session = s; state = Bad n }
step_by (Refused k n) f s r = record { session = s; state = Refused k n }

-- one record more: the first bad record decides
unfoldable pub step_of : Form → Trace → List ℕ → Trace
step_of f t r = step_by t.state f t.session r

-- WHAT A RECORD'S CALL ANSWERED, by a session s: nothing for a lost report, for a bad record and for anything after close
abbrev pub said_for : Session → Offer → Said
said_for s (Offer.take b t) = Said.Transfer (take_of s (length b) t).outcome
said_for s Offer.lost = Said.Nothing
said_for s Offer.close = Said.Close (close_of s).closing

abbrev pub said_call : Session → Ask → Said
said_call s c = said_for s (offer_of s c)

abbrev pub said_by : Bool → Session → Ask → Said
said_by true s c = Said.Nothing
said_by false s c = said_call s c

unfoldable pub said_of : Form → Session → List ℕ → Said
said_of f s r = said_by (s.rest.closed || record_bad f r) s (record_ask f r)

-- all the records
abbrev pub traced : Form → Trace → List (List ℕ) → Trace
traced f t [] = t
traced f t (r ∷ rs) = traced f (step_of f t r) rs

-- what is printed: the ledger of a good trace; nothing of it otherwise
abbrev pub print_by : State → Session → Printed
print_by Good s = record { state = Good; ledger = ledger_of s }
print_by (Bad n) s = record { state = Bad n; ledger = no_ledger }
print_by (Refused k n) s = record { state = Refused k n; ledger = no_ledger }

unfoldable pub report_of : Trace → Printed
report_of t = print_by t.state t.session

-- a good trace
abbrev pub good_of : Session → Trace
good_of s = record { session = s; state = Good }
