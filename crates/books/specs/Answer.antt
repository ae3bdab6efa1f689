-- Document 01, "The answer has two parts" and what is written, with document 02, "Two": which call hands a frame out. All from the list alone. `cs` are the calls taken
-- before this one.
use Rattle.session_rules.specs.Options.{Ended, Fault}
use Rattle.std.specs.Prelude.{ℕ, Bool, true, false, cond, not, ◌&&◌, List, [], ◌∷◌, ◌++◌, length, drop, eqb, None, Some}
use Rattle.std.specs.Bool.{beq}
use Rattle.std.proofs.Math.Seq.{paste}
use Rattle.sizes.specs.declared.Opening.{Opening}
use Rattle.sizes.specs.Framing.{by_eof}
use Rattle.session_rules.specs.declared.Header.{Header}
use Rattle.session_rules.specs.declared.Reading.{Reading}
use Rattle.session_rules.specs.declared.Reading.TheVariants.{Idle, Unreadable, Readable}
use Rattle.session_rules.specs.Transfer.{reading_of}
use Rattle.session_rules.specs.declared.Fate.{Fate}
use Rattle.session_rules.specs.declared.Answer.{Answer}
use Rattle.session_rules.specs.declared.HandOut.{HandOut}
use Rattle.session_rules.specs.Entry.{Entry}
use Rattle.session_rules.specs.declared.Outcome.{Outcome}
use Rattle.session_rules.specs.Call.{Call}
use Rattle.books.specs.Rule.{events, Seen, readables, runs, frame_of, stray_of, closed, complete, data_of, first_stamp, last_layer, still_of, fault, verdict}

-- THE LAST RUN of a list; none, where no transfer is readable
abbrev pub last_of : List (List Seen) → List Seen
last_of [] = []
last_of (r ∷ []) = r
last_of (r ∷ (q ∷ rs)) = last_of (q ∷ rs)

abbrev pub last_run : Opening → List Call → List Seen
last_run o cs = last_of (runs (readables false (events o cs)))

-- what the rule makes of a run's frame: the session is open or closed, and the run the last or not
abbrev pub frame_entry : Opening → Bool → Bool → List Seen → Entry
frame_entry o open₀ last r =
    verdict (open₀ && last) (complete o last (frame_of o r)) (fault o (frame_of o r)) (first_stamp (frame_of o r)) (last_layer (frame_of o r)) (still_of (frame_of o r))
    (length (data_of (frame_of o r)))

-- "WHAT BECAME OF A FRAME ENDED": its reason, or none
abbrev pub reason_in : Entry → Ended
reason_in (Entry.Dropped w n) = Some w
reason_in (Entry.Delivered d) = None
reason_in (Entry.Still d) = None
reason_in (Entry.UnderWay n) = None
reason_in (Entry.Stray n) = None
reason_in (Entry.Unreadable n) = None
reason_in (Entry.Headers n) = None
reason_in Entry.Lost = None
reason_in Entry.Idle = None

-- of a run's frame: one with its own EOF, or its mark, was ended by that, and is not ended again
abbrev pub ended_in : Opening → Bool → Bool → List Seen → Ended
ended_in o open₀ last [] = None
ended_in o open₀ last (t ∷ ts) = cond (closed o (frame_of o (t ∷ ts))) None (reason_in (frame_entry o open₀ last (t ∷ ts)))

-- by a transfer of the other FID: the run is not the last any more
abbrev pub turned_in : Opening → List Seen → Ended
turned_in o r = ended_in o true false r

-- by close: the session is not open any more
abbrev pub ending_of : Opening → List Call → Ended
ending_of o cs = ended_in o false true (last_run o cs)

-- a transfer goes on with a run of its own FID, and ends one of the other
abbrev pub goes_on : Header → List Seen → Bool
goes_on h [] = false
goes_on h (t ∷ ts) = beq t.header.fid h.fid

-- "THIS TRANSFER'S OWN FATE", by the run that it is the last of: stray after the frame's EOF or mark, else what the rule makes of the frame with it; under way is kept.
-- (The last four entries are no frame's.)
abbrev pub fate_in : Entry → Fate
fate_in (Entry.Delivered d) = Fate.Delivered d
fate_in (Entry.Still d) = Fate.Still d
fate_in (Entry.Dropped w n) = Fate.Dropped w
fate_in (Entry.UnderWay n) = Fate.Kept
fate_in (Entry.Stray n) = Fate.Stray
fate_in (Entry.Unreadable n) = Fate.Kept
fate_in (Entry.Headers n) = Fate.Kept
fate_in Entry.Lost = Fate.Kept
fate_in Entry.Idle = Fate.Idle

abbrev pub fate_by : List Seen → Entry → Fate
fate_by [] e = fate_in e
fate_by (t ∷ ts) e = Fate.Stray

abbrev pub fate_on : Opening → List Seen → Fate
fate_on o r = fate_by (stray_of o r) (frame_entry o true true r)

-- THE ANSWER to a transfer that is taken
abbrev pub with : List Call → List ℕ → List Call
with cs t = cs ++ (Call.transfer t ∷ [])

abbrev pub answer_for : Reading → Opening → List Call → List ℕ → Answer
answer_for Idle o cs t = record { ended = None; fate = Fate.Idle }
answer_for (Unreadable k) o cs t = record { ended = None; fate = Fate.Unreadable k }
answer_for (Readable h) o cs t =
    record { ended = cond (goes_on h (last_run o cs)) None (turned_in o (last_run o cs)); fate = fate_on o (last_run o (with cs t)) }

abbrev pub answer_of : Opening → List Call → List ℕ → Answer
answer_of o cs t = answer_for (reading_of o t) o cs t

-- "THAT CALL HANDS OUT THE FRAME": with D1 clear, before a readable transfer of the other FID than the last run's, where no mark closes that run's frame, it has no fault
-- so far and it has data
abbrev pub turns : Header → List Seen → Bool
turns h [] = false
turns h (t ∷ ts) = not (beq t.header.fid h.fid)

abbrev pub is_sound : Fault → Bool
is_sound None = true
is_sound (Some w) = false

abbrev pub hands_in : Opening → Header → List Seen → Bool
hands_in o h r =
    not (by_eof o) && (turns h r && (not (closed o r) && (is_sound (fault o (frame_of o r)) && not (eqb (length (data_of (frame_of o r))) 0))))

abbrev pub hands_for : Reading → Opening → List Call → Bool
hands_for Idle o cs = false
hands_for (Unreadable k) o cs = false
hands_for (Readable h) o cs = hands_in o h (last_run o cs)

abbrev pub hands : Opening → List Call → List ℕ → Bool
hands o cs t = hands_for (reading_of o t) o cs

-- the frame as it is handed out: its still bit, its length, its stamp and its layer
abbrev pub out_of : Opening → List Seen → HandOut
out_of o r =
    record {
      still = still_of (frame_of o r);
      delivery = record { len = length (data_of (frame_of o r)); stamp = first_stamp (frame_of o r); layer = last_layer (frame_of o r) };
    }

-- THE OUTCOME of a take that is not refused
abbrev pub outcome_of : Opening → List Call → List ℕ → Outcome
outcome_of o cs t = cond (hands o cs t) (Outcome.Handed (out_of o (last_run o cs))) (Outcome.Taken (answer_of o cs t))

-- WHAT IS WRITTEN: a transfer's data straight after its frame's earlier data, if it is no stray and the frame has no fault up to and with it; otherwise nothing
abbrev pub earlier : List Seen → List Seen
earlier [] = []
earlier (t ∷ []) = []
earlier (t ∷ (u ∷ us)) = t ∷ earlier (u ∷ us)

abbrev pub written_by : List Seen → Fault → ℕ → List ℕ → List ℕ → List ℕ
written_by [] None at d buffer = paste buffer at d (length d)
written_by [] (Some w) at d buffer = buffer
written_by (t ∷ ts) q at d buffer = buffer

abbrev pub written_in : Opening → List Seen → List ℕ → List ℕ → List ℕ
written_in o r d buffer = written_by (stray_of o r) (fault o (frame_of o r)) (length (data_of (earlier (frame_of o r)))) d buffer

abbrev pub written_for : Reading → Opening → List Call → List ℕ → List ℕ → List ℕ
written_for Idle o cs t buffer = buffer
written_for (Unreadable k) o cs t buffer = buffer
written_for (Readable h) o cs t buffer = written_in o (last_run o (with cs t)) (drop h.len t) buffer

-- a call that hands out writes nothing
abbrev pub written_of : Opening → List Call → List ℕ → List ℕ → List ℕ
written_of o cs t buffer = cond (hands o cs t) buffer (written_for (reading_of o t) o cs t buffer)
