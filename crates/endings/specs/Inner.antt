-- What the contracts cite: the frames that a call ended, from the record's rest before it and from its answer. Nothing here needs to be believed:
-- proofs/Theorems shows that these are the frames that the list has more of with the call.
use Rattle.session_rules.specs.Options.{Ended, Stamp, Closing}
use Rattle.std.specs.Prelude.{ℕ, ◌+◌, ◌-◌, ◌%◌, ◌^◌, Bool, true, false, List, [], ◌∷◌, ◌++◌, length, None, Option, Some, Err, Ok}
use Rattle.rules.specs.IfElse.{if_else}
use Rattle.session_rules.specs.declared.Header.{Header}
use Rattle.session_rules.specs.declared.Reading.{Reading}
use Rattle.session_rules.specs.Transfer.{reading_of}
use Rattle.session_rules.specs.declared.Reason.{Reason}
use Rattle.session_rules.specs.declared.Phase.{Phase}
use Rattle.session_rules.specs.declared.Phase.TheVariants.{Fresh, Under, Past}
use Rattle.session_rules.specs.declared.Fate.{Fate}
use Rattle.session_rules.specs.declared.Delivery.{Delivery}
use Rattle.session_rules.specs.Turns.{same_of, earlier_of}
use Rattle.session_rules.specs.declared.Session.{Session}
use Rattle.session_rules.specs.declared.Rest.{Rest}
use Rattle.session_rules.specs.declared.Outcome.{Outcome}
use Rattle.session_rules.specs.Session.{take_of, close_of}
use Rattle.session_rules.specs.Calls.{Offer, next}
use Rattle.endings.specs.declared.How.{How}
use Rattle.endings.specs.declared.Ending.{Ending}
use Rattle.endings.specs.declared.Endings.{Endings}
use Rattle.endings.specs.Endings.{ending_as}

-- a frame under way that another FID, or close, ended: its bytes and its first stamp
abbrev pub tell_ended : Phase → Ended → Option Ending
tell_ended ph None = None
tell_ended Fresh (Some w) = None
tell_ended (Past f) (Some w) = None
tell_ended (Under r) (Some w) = Some (ending_as (How.Dropped w) r.bytes r.stamp)

-- the frame that a transfer of this FID joins: that of a run of its FID, or a new one
abbrev pub bytes_before : Phase → Bool → ℕ
bytes_before Fresh f = 0
bytes_before (Past g) f = 0
bytes_before (Under r) f = if_else (same_of r.fid f) r.bytes 0

abbrev pub stamp_before : Phase → Bool → Stamp
stamp_before Fresh f = None
stamp_before (Past g) f = None
stamp_before (Under r) f = if_else (same_of r.fid f) r.stamp None

-- with the transfer, of n bytes of data
abbrev pub bytes_with : Phase → Header → ℕ → ℕ
bytes_with ph h n = (bytes_before ph h.fid + n) % 2 ^ 64

abbrev pub stamp_with : Phase → Header → Stamp
stamp_with ph h = earlier_of (stamp_before ph h.fid) h.stamp

abbrev pub dropped_as : Phase → Header → ℕ → Reason → Option Ending
dropped_as ph h n w = Some (ending_as (How.Dropped w) (bytes_with ph h n) (stamp_with ph h))

-- the transfer's own frame; m is the transfer's length
abbrev pub tell_dropped : Reading → Phase → ℕ → Reason → Option Ending
tell_dropped Reading.Idle ph m w = None
tell_dropped (Reading.Unreadable k) ph m w = None
tell_dropped (Reading.Readable h) ph m w = dropped_as ph h (m - h.len) w

abbrev pub out_as : Bool → How
out_as true = How.Still
out_as false = How.Delivered

abbrev pub how_out : Bool → Delivery → Option Ending
how_out b d = Some (ending_as (out_as b) d.len d.stamp)

abbrev pub tell_fate : Reading → Phase → ℕ → Fate → Option Ending
tell_fate x ph m Fate.Idle = None
tell_fate x ph m Fate.Kept = None
tell_fate x ph m Fate.Stray = None
tell_fate x ph m (Fate.Delivered d) = how_out false d
tell_fate x ph m (Fate.Still d) = how_out true d
tell_fate x ph m (Fate.Dropped w) = tell_dropped x ph m w
tell_fate x ph m (Fate.Unreadable k) = None

-- WHAT IS TOLD of a take and of close
abbrev pub none_told : Endings
none_told = record { first = None; second = None }

abbrev pub tell_taken : Rest → List ℕ → Outcome → Endings
tell_taken s t (Outcome.Refused k) = none_told
tell_taken s t (Outcome.Taken a) =
    record {
      first = tell_ended s.track.phase a.ended;
      second = tell_fate (reading_of s.opening t) s.track.phase (length t) a.fate;
    }
tell_taken s t (Outcome.Handed x) = record { first = how_out x.still x.delivery; second = None }

abbrev pub tell_closed : Rest → Closing → Endings
tell_closed s (Err k) = none_told
tell_closed s (Ok e) = record { first = tell_ended s.track.phase e; second = None }

-- in order
abbrev pub told_in : Option Ending → List Ending
told_in None = []
told_in (Some x) = x ∷ []

abbrev pub list_in : Endings → List Ending
list_in x = told_in x.first ++ told_in x.second

-- what a session tells of an offer; a lost report ends no frame
abbrev pub told_by : Session → Offer → Endings
told_by s (Offer.take buffer t) = tell_taken s.rest t (take_of s (length buffer) t).outcome
told_by s Offer.lost = none_told
told_by s Offer.close = tell_closed s.rest (close_of s).closing

-- and of offers one after the other
abbrev pub all_told : Session → List Offer → List Ending
all_told s [] = []
all_told s (x ∷ xs) = list_in (told_by s x) ++ all_told (next s x) xs
