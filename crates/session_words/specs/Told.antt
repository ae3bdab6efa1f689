-- WHAT C IS TOLD of a call: one record of sixteen bytes. A field that has nothing to say is 0.
use Rattle.session_rules.specs.Options.{Ended, Layer, Stamp, Start, Report, Closing}
use Rattle.std.specs.Prelude.{ℕ, ◌+◌, ◌%◌, Bool, true, false, None, Some, Err, Ok}
use Rattle.session_rules.specs.declared.Delivery.{Delivery}
use Rattle.session_rules.specs.declared.Fate.{Fate}
use Rattle.session_rules.specs.declared.Outcome.{Outcome}
use Rattle.session_words.specs.declared.Told.{Told}
use Rattle.session_words.specs.Words.{reason_word}

-- a refusal's number, and nothing else
abbrev pub refused_told : ℕ → Told
refused_told k = record { refused = k; ended = 0; fate = 0; detail = 0; flags = 0; zero = 0; layer = 0; length = 0; stamp = 0 }

-- the reason of a frame that was ended, the transfer's fate, and its own reason or number
abbrev pub plain_told : ℕ → ℕ → ℕ → Told
plain_told ended fate detail =
    record { refused = 0; ended = ended; fate = fate; detail = detail; flags = 0; zero = 0; layer = 0; length = 0; stamp = 0 }

-- flags: 1 with a stamp, 2 with a layer, 4 where the transfer is to be offered again
abbrev pub stamp_flag : Stamp → ℕ
stamp_flag None = 0
stamp_flag (Some x) = 1

abbrev pub layer_flag : Layer → ℕ
layer_flag None = 0
layer_flag (Some x) = 2

abbrev pub stamp_low : Stamp → ℕ
stamp_low None = 0
stamp_low (Some x) = x

abbrev pub layer_low : Layer → ℕ
layer_low None = 0
layer_low (Some x) = x

-- a frame that is handed over: its length, stamp and layer (proofs/Lengths: no frame has more bytes than the field takes)
abbrev pub frame_told : ℕ → ℕ → ℕ → Delivery → Told
frame_told ended fate more d =
    record {
      refused = 0;
      ended = ended;
      fate = fate;
      detail = 0;
      flags = more + stamp_flag d.stamp + layer_flag d.layer;
      zero = 0;
      layer = layer_low d.layer;
      length = d.len % 4294967296;
      stamp = stamp_low d.stamp;
    }

abbrev pub ended_word : Ended → ℕ
ended_word None = 0
ended_word (Some why) = reason_word why

-- fates: 0 idle, 1 kept, 2 stray, 3 delivered, 4 still, 5 dropped, 6 unreadable
abbrev pub fate_told : ℕ → Fate → Told
fate_told e Fate.Idle = plain_told e 0 0
fate_told e Fate.Kept = plain_told e 1 0
fate_told e Fate.Stray = plain_told e 2 0
fate_told e (Fate.Delivered d) = frame_told e 3 0 d
fate_told e (Fate.Still d) = frame_told e 4 0 d
fate_told e (Fate.Dropped why) = plain_told e 5 (reason_word why)
fate_told e (Fate.Unreadable k) = plain_told e 6 k

abbrev pub handed_fate : Bool → ℕ
handed_fate true = 4
handed_fate false = 3

-- TAKE: refused, taken, or not taken because the frame before is handed out
abbrev pub outcome_told : Outcome → Told
outcome_told (Outcome.Refused k) = refused_told k
outcome_told (Outcome.Taken a) = fate_told (ended_word a.ended) a.fate
outcome_told (Outcome.Handed x) = frame_told 0 (handed_fate x.still) 4 x.delivery

-- LOST, CLOSE and OPEN
abbrev pub report_told : Report → ℕ
report_told (Err k) = k
report_told (Ok _) = 0

abbrev pub closing_told : Closing → Told
closing_told (Err k) = refused_told k
closing_told (Ok e) = plain_told (ended_word e) 0 0

abbrev pub start_told : Start → ℕ
start_told (Err k) = k
start_told (Ok _) = 0
