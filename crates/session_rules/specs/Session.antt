-- What each call answers, makes of the session and writes to the buffer: one definition of its inputs.
use Rattle.std.specs.Prelude.{ℕ, zero, suc, ◌+◌, ◌-◌, List, Bool, true, false, length, drop, None, Err, Ok}
use Rattle.std.proofs.Math.Seq.{paste}
use Rattle.rules.specs.Numbered.{first_row}
use Rattle.sizes.specs.declared.Opening.{Opening}
use Rattle.sizes.specs.declared.HeaderKind.TheVariants.{Old}
use Rattle.session_rules.specs.declared.Header.{Header}
use Rattle.session_rules.specs.declared.Reading.{Reading}
use Rattle.session_rules.specs.declared.Reading.TheVariants.{Idle, Unreadable, Readable}
use Rattle.session_rules.specs.Transfer.{reading_of}
use Rattle.session_rules.specs.declared.Track.{Track}
use Rattle.session_rules.specs.declared.Turn.{Turn}
use Rattle.session_rules.specs.declared.Phase.TheVariants.{Fresh}
use Rattle.session_rules.specs.declared.Fate.{Fate}
use Rattle.session_rules.specs.declared.Answer.{Answer}
use Rattle.session_rules.specs.declared.Out.{Out}
use Rattle.session_rules.specs.Track.{handing}
use Rattle.session_rules.specs.declared.Ledger.{Ledger}
use Rattle.session_rules.specs.Entry.{Entry}
use Rattle.session_rules.specs.Ledger.{no_ledger, post_of, ended_of, fated_of, answered_of}
use Rattle.session_rules.specs.declared.Session.{Session}
use Rattle.session_rules.specs.declared.Opened.{Opened}
use Rattle.session_rules.specs.declared.Outcome.{Outcome}
use Rattle.session_rules.specs.declared.Taken.{Taken}
use Rattle.session_rules.specs.declared.Reported.{Reported}
use Rattle.session_rules.specs.declared.Closed.{Closed}
use Rattle.session_rules.specs.Refusals.{opening_rows, posted_of, close_rows, lost_rows, take_rows}
use Rattle.session_rules.specs.Turns.{turn_of, hands_of, out_of, idle_turn, unread_turn, spoilt_of, closed_of}

-- OPEN: a session with no transfer taken and a fresh ledger
abbrev pub new_session : Opening → Bool → Session
new_session o closed =
    record {
      rest = record { opening = o; closed = closed; taken = 0; track = record { phase = Fresh; gap = false }; last = no_ledger.last };
      numbers = no_ledger.numbers;
    }

abbrev pub fresh : Opening → Session
fresh o = new_session o false

-- what a refused opening gives: closed, with no sizes, so that every call refuses it by 50
abbrev pub no_session : Session
no_session = new_session (record { frame = 0; payload = 0; framing = 0; kind = Old }) true

abbrev pub open_by : ℕ → Opening → Opened
open_by zero o = record { session = fresh o; start = Ok tt }
open_by (suc k) o = record { session = no_session; start = Err (suc k) }

unfoldable pub open_of : Opening → ℕ → Opened
open_of o room = open_by (first_row (opening_rows o room)) o

-- one more transfer taken, with this track and this ledger
abbrev pub counted_of : Session → Track → Ledger → Session
counted_of s t l =
    record {
      rest = record { opening = s.rest.opening; closed = s.rest.closed; taken = s.rest.taken + 1; track = t; last = l.last };
      numbers = l.numbers;
    }

-- TAKE: what the transfer leads to is posted, whether it is idle, unreadable or readable
abbrev pub taken_by : Session → Ledger → Turn → Taken
taken_by s l x =
    record {
      session = counted_of s x.track (answered_of l x.answer x.gone x.bytes);
      outcome = Outcome.Taken x.answer;
    }

-- a readable transfer with header h and n bytes of data: its header is entered before
abbrev pub turned : Session → Header → ℕ → Turn
turned s h n = turn_of s.rest.opening s.rest.track h n

unfoldable pub read_of : Session → Header → ℕ → Taken
read_of s h n = taken_by s (post_of (posted_of s) (Entry.Headers h.len)) (turned s h n)

-- its data is written straight after the frame's earlier data, or nothing is
abbrev pub read_buffer : Session → Header → List ℕ → List ℕ → List ℕ
read_buffer s h buffer t =
    paste buffer (turned s h (length t - h.len)).at (drop h.len t) (turned s h (length t - h.len)).len

-- an answer of which no frame was ended
abbrev pub plainly : Fate → Answer
plainly f = record { ended = None; fate = f }

abbrev pub took_by : Reading → Session → List ℕ → Taken
took_by Idle s t = taken_by s (posted_of s) (idle_turn s.rest.track)
took_by (Unreadable k) s t = taken_by s (posted_of s) (unread_turn s.rest.track k (length t))
took_by (Readable h) s t = read_of s h (length t - h.len)

unfoldable pub took_of : Session → List ℕ → Taken
took_of s t = took_by (reading_of s.rest.opening t) s t

abbrev pub took_buffer_by : Reading → Session → List ℕ → List ℕ → List ℕ
took_buffer_by Idle s buffer t = buffer
took_buffer_by (Unreadable k) s buffer t = buffer
took_buffer_by (Readable h) s buffer t = read_buffer s h buffer t

unfoldable pub took_buffer : Session → List ℕ → List ℕ → List ℕ
took_buffer s buffer t = took_buffer_by (reading_of s.rest.opening t) s buffer t

-- HAND-OUT (document 02, Two): with D1 of the framing byte clear, a readable transfer of the other FID is not taken before the frame under way is handed out, if
-- that has no fault and has data
abbrev pub hands_for : Reading → Session → Bool
hands_for Idle s = false
hands_for (Unreadable k) s = false
hands_for (Readable h) s = hands_of s.rest.opening s.rest.track h

unfoldable pub hands_out : Session → List ℕ → Bool
hands_out s t = hands_for (reading_of s.rest.opening t) s

-- the frame is entered at once, and nothing else changes: not the transfers taken, not the headers, no byte of the buffer
abbrev pub passed_of : Session → Out → Ledger → Session
passed_of s x l =
    record {
      rest = record { opening = s.rest.opening; closed = s.rest.closed; taken = s.rest.taken; track = x.track; last = l.last };
      numbers = l.numbers;
    }

abbrev pub entered_out : Session → Out → Ledger
entered_out s x = fated_of (posted_of s) (handing x.frame.still x.frame.delivery) x.frame.delivery.len

abbrev pub handed_by : Session → Out → Taken
handed_by s x = record { session = passed_of s x (entered_out s x); outcome = Outcome.Handed x.frame }

unfoldable pub handed_of : Session → Taken
handed_of s = handed_by s (out_of s.rest.track)

-- a transfer that nothing refuses: a frame is handed out, or it is taken
abbrev pub met_by : Bool → Session → List ℕ → Taken
met_by true s t = handed_of s
met_by false s t = took_of s t

abbrev pub met_of : Session → List ℕ → Taken
met_of s t = met_by (hands_out s t) s t

abbrev pub met_buffer_by : Bool → Session → List ℕ → List ℕ → List ℕ
met_buffer_by true s buffer t = buffer
met_buffer_by false s buffer t = took_buffer s buffer t

abbrev pub met_buffer : Session → List ℕ → List ℕ → List ℕ
met_buffer s buffer t = met_buffer_by (hands_out s t) s buffer t

-- refused, and everything as it was; or not
abbrev pub take_by : ℕ → Session → List ℕ → Taken
take_by zero s t = met_of s t
take_by (suc k) s t = record { session = s; outcome = Outcome.Refused (suc k) }

unfoldable pub take_of : Session → ℕ → List ℕ → Taken
take_of s room t = take_by (first_row (take_rows s room (length t))) s t

abbrev pub buffer_by : ℕ → Session → List ℕ → List ℕ → List ℕ
buffer_by zero s buffer t = met_buffer s buffer t
buffer_by (suc k) s buffer t = buffer

unfoldable pub buffer_of : Session → List ℕ → List ℕ → List ℕ
buffer_of s buffer t = buffer_by (first_row (take_rows s (length buffer) (length t))) s buffer t

-- LOST: counted as lost alone, otherwise as an unreadable transfer
abbrev pub missed_of : Session → Session
missed_of s = counted_of s (spoilt_of s.rest.track) (post_of (posted_of s) Entry.Lost)

abbrev pub lost_by : ℕ → Session → Reported
lost_by zero s = record { session = missed_of s; report = Ok tt }
lost_by (suc k) s = record { session = s; report = Err (suc k) }

unfoldable pub lost_of : Session → Reported
lost_of s = lost_by (first_row (lost_rows s)) s

-- CLOSE: ends a frame under way, and is no transfer taken
abbrev pub shut_of : Session → Closed
shut_of s =
    record {
      session =
          record {
            rest =
                record {
                  opening = s.rest.opening;
                  closed = true;
                  taken = s.rest.taken;
                  track = (closed_of s.rest.track).track;
                  last = (ended_of (posted_of s) (closed_of s.rest.track).ended (closed_of s.rest.track).gone).last;
                };
            numbers = (ended_of (posted_of s) (closed_of s.rest.track).ended (closed_of s.rest.track).gone).numbers;
          };
      closing = Ok (closed_of s.rest.track).ended;
    }

abbrev pub close_by : ℕ → Session → Closed
close_by zero s = shut_of s
close_by (suc k) s = record { session = s; closing = Err (suc k) }

unfoldable pub close_of : Session → Closed
close_of s = close_by (first_row (close_rows s)) s
