-- What one call makes of the frame under way, as the code has it. Nothing here needs to be believed: the frame rule is stated from the list alone, in the books,
-- which show that the two agree.
use Rattle.session_rules.specs.Options.{Ended, Fault, Layer, Stamp}
use Rattle.std.specs.Prelude.{ℕ, ◌+◌, ◌<◌, ◌^◌, Bool, true, false, not, ◌&&◌, ltb, eqb, None, Some}
use Rattle.rules.specs.IfElse.{if_else}
use Rattle.sizes.specs.declared.Opening.{Opening}
use Rattle.sizes.specs.Framing.{by_eof}
use Rattle.session_rules.specs.declared.Header.{Header}
use Rattle.session_rules.specs.declared.Reason.{Reason}
use Rattle.session_rules.specs.declared.Reason.TheVariants.{Gap, Error, Clock, Mixed, Long, Cut, Empty}
use Rattle.session_rules.specs.declared.Run.{Run}
use Rattle.session_rules.specs.declared.Phase.{Phase}
use Rattle.session_rules.specs.declared.Phase.TheVariants.{Fresh, Under, Past}
use Rattle.session_rules.specs.declared.Track.{Track}
use Rattle.session_rules.specs.declared.Fate.{Fate}
use Rattle.session_rules.specs.declared.Fate.TheVariants.{Idle, Kept, Stray, Delivered, Still, Dropped, Unreadable}
use Rattle.session_rules.specs.declared.Turn.{Turn}
use Rattle.session_rules.specs.declared.Out.{Out}
use Rattle.session_rules.specs.declared.Shut.{Shut}

-- the earlier fault stands
abbrev pub first_of : Fault → Bool → Reason → Fault
first_of (Some w) bad why = Some w
first_of None true why = Some why
first_of None false why = None

-- a stamp that differs from the frame's first
abbrev pub clash_of : Stamp → Stamp → Bool
clash_of None b = false
clash_of (Some x) None = false
clash_of (Some x) (Some y) = not (eqb x y)

-- the first stamp of two
abbrev pub earlier_of : Stamp → Stamp → Stamp
earlier_of None b = b
earlier_of (Some x) b = Some x

-- the last layer of two
abbrev pub later_of : Layer → Layer → Layer
later_of a None = a
later_of a (Some y) = Some y

-- the fault names the frame; without one, the other reason does
abbrev pub why_of : Fault → Reason → Reason
why_of None other = other
why_of (Some why) other = why

abbrev pub same_of : Bool → Bool → Bool
same_of true b = b
same_of false b = not b

-- data is written straight after the frame's earlier data, if the frame has no fault up to and with this transfer
abbrev pub filled_of : Fault → ℕ → ℕ → ℕ
filled_of None fill n = fill + n
filled_of (Some w) fill n = fill

abbrev pub written_of : Fault → ℕ → ℕ
written_of None n = n
written_of (Some w) n = 0

-- a frame begins: with a gap, if an unreadable or lost transfer came before it with no readable one between
abbrev pub begun_of : Bool → Bool → Bool → Run
begun_of gap fid still = record { fid = fid; still = still; fault = first_of None gap Gap; bytes = 0; fill = 0; stamp = None; layer = None }

-- the still bit is not that of the frame's first transfer
abbrev pub mixed_of : Run → Header → Bool
mixed_of r h = not (same_of r.still h.still)

-- the earliest fault once a transfer with n bytes of data has joined: error, clock, mixed, long, in this order
abbrev pub fault_of : Opening → Run → Header → ℕ → Fault
fault_of o r h n =
    first_of (first_of (first_of (first_of r.fault h.error Error) (clash_of r.stamp h.stamp) Clock) (mixed_of r h) Mixed)
    (ltb o.frame (r.bytes + n)) Long

abbrev pub joined_of : Opening → Run → Header → ℕ → Run
joined_of o r h n =
    record {
      fid = r.fid;
      still = r.still;
      fault = fault_of o r h n;
      bytes = r.bytes + n;
      fill = filled_of (fault_of o r h n) r.fill n;
      stamp = earlier_of r.stamp h.stamp;
      layer = later_of r.layer h.layer;
    }

-- complete without fault: empty if it has no data, else a still if its bit is set, else delivered
abbrev pub complete_of : Fault → ℕ → Stamp → Layer → Bool → Fate
complete_of (Some why) n s y b = Dropped why
complete_of None n s y b =
    if_else (eqb n 0) (Dropped Empty) (if_else b (Still (record { len = n; stamp = s; layer = y })) (Delivered (record { len = n; stamp = s; layer = y })))

-- EOF ends a frame with D1 of the framing byte set, and is ignored with it clear
abbrev pub ends_of : Opening → Header → Bool
ends_of o h = by_eof o && h.eof

-- what another FID calls a frame without fault that was not handed out
abbrev pub turned_why : Opening → Reason
turned_why o = if_else (by_eof o) Cut Empty

abbrev pub fate_of : Bool → Run → Fate
fate_of true r = complete_of r.fault r.bytes r.stamp r.layer r.still
fate_of false r = Kept

-- after an EOF what follows in the run is stray
abbrev pub phase_of : Bool → Run → Phase
phase_of true r = Past r.fid
phase_of false r = Under r

-- a transfer with n bytes of data joins the frame r
abbrev pub join_turn : Opening → Run → Header → ℕ → Ended → ℕ → Turn
join_turn o r h n ended gone =
    record {
      track = record { phase = phase_of (ends_of o h) (joined_of o r h n); gap = false };
      answer = record { ended = ended; fate = fate_of (ends_of o h) (joined_of o r h n) };
      gone = gone;
      bytes = r.bytes + n;
      at = r.fill;
      len = written_of (fault_of o r h n) n;
    }

-- a transfer that is no part of a frame: nothing is ended and nothing is written
abbrev pub plain_turn : Track → Fate → ℕ → Turn
plain_turn t f n = record { track = t; answer = record { ended = None; fate = f }; gone = 0; bytes = n; at = 0; len = 0 }

abbrev pub stray_turn : Bool → ℕ → Turn
stray_turn fid n = plain_turn (record { phase = Past fid; gap = false }) Stray n

abbrev pub turn_by : Phase → Opening → Bool → Header → ℕ → Turn
turn_by Fresh o gap h n = join_turn o (begun_of gap h.fid h.still) h n None 0
turn_by (Under r) o gap h n =
    if_else (same_of r.fid h.fid) (join_turn o r h n None 0)
    (join_turn o (begun_of gap h.fid h.still) h n (Some (why_of r.fault (turned_why o))) r.bytes)
turn_by (Past fid) o gap h n = if_else (same_of fid h.fid) (stray_turn fid n) (join_turn o (begun_of gap h.fid h.still) h n None 0)

-- a readable transfer with n bytes of data
unfoldable pub turn_of : Opening → Track → Header → ℕ → Turn
turn_of o t h n = turn_by t.phase o t.gap h n

-- before a transfer of the other FID is taken with D1 clear, a frame without fault and with data is handed out
abbrev pub ready_of : Fault → ℕ → Bool
ready_of None n = not (eqb n 0)
ready_of (Some why) n = false

abbrev pub hands_by : Phase → Opening → Header → Bool
hands_by Fresh o h = false
hands_by (Past fid) o h = false
hands_by (Under r) o h = not (by_eof o) && (not (same_of r.fid h.fid) && ready_of r.fault r.bytes)

unfoldable pub hands_of : Opening → Track → Header → Bool
hands_of o t h = hands_by t.phase o h

-- the hand-out: what follows in the run is stray, and the gap flag stays; without a frame under way it has nothing in it
abbrev pub out_by : Phase → Bool → Out
out_by Fresh gap =
    record { track = record { phase = Fresh; gap = gap }; frame = record { still = false; delivery = record { len = 0; stamp = None; layer = None } } }
out_by (Past fid) gap =
    record { track = record { phase = Past fid; gap = gap }; frame = record { still = false; delivery = record { len = 0; stamp = None; layer = None } } }
out_by (Under r) gap =
    record {
      track = record { phase = Past r.fid; gap = gap };
      frame = record { still = r.still; delivery = record { len = r.bytes; stamp = r.stamp; layer = r.layer } };
    }

unfoldable pub out_of : Track → Out
out_of t = out_by t.phase t.gap

-- an unreadable or lost transfer: a gap for the frame under way, and for one that begins next
abbrev pub spoilt_by : Phase → Phase
spoilt_by Fresh = Fresh
spoilt_by (Past fid) = Past fid
spoilt_by (Under r) =
    Under
    (record { fid = r.fid; still = r.still; fault = first_of r.fault true Gap; bytes = r.bytes; fill = r.fill; stamp = r.stamp; layer = r.layer })

unfoldable pub spoilt_of : Track → Track
spoilt_of t = record { phase = spoilt_by t.phase; gap = true }

-- an idle transfer, and an unreadable one of n bytes
abbrev pub idle_turn : Track → Turn
idle_turn t = plain_turn t Idle 0

abbrev pub unread_turn : Track → ℕ → ℕ → Turn
unread_turn t number n = plain_turn (spoilt_of t) (Unreadable number) n

-- close ends a frame under way
abbrev pub closed_by : Phase → Bool → Shut
closed_by Fresh gap = record { track = record { phase = Fresh; gap = gap }; ended = None; gone = 0 }
closed_by (Past fid) gap = record { track = record { phase = Past fid; gap = gap }; ended = None; gone = 0 }
closed_by (Under r) gap =
    record { track = record { phase = Past r.fid; gap = gap }; ended = Some (why_of r.fault Cut); gone = r.bytes }

unfoldable pub closed_of : Track → Shut
closed_of t = closed_by t.phase t.gap

-- there is room for one transfer's data more
abbrev pub Roomy : Phase → Type 0
Roomy Fresh = Unit {0}
Roomy (Past fid) = Unit {0}
Roomy (Under r) = (r.bytes < 2 ^ 62) × (r.fill < 2 ^ 62)
