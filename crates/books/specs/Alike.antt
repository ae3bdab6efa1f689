-- TWO SESSIONS, each with one buffer that nobody else writes, that are given the same calls: where each is, and all that a caller hears of its calls.
use Rattle.session_rules.specs.Options.{Report, Closing}
use Rattle.std.specs.Prelude.{ℕ, ◌≡◌, List, [], ◌∷◌, length, take}
use Rattle.sizes.specs.declared.Opening.{Opening}
use Rattle.sizes.specs.Framing.{by_eof}
use Rattle.session_rules.specs.declared.Phase.{Phase}
use Rattle.session_rules.specs.declared.Phase.TheVariants.{Fresh, Under, Past}
use Rattle.session_rules.specs.declared.Fate.{Fate}
use Rattle.session_rules.specs.declared.Session.{Session}
use Rattle.session_rules.specs.declared.Outcome.{Outcome}
use Rattle.session_rules.specs.Session.{take_of, lost_of, close_of}
use Rattle.session_rules.specs.Call.{Ask}
use Rattle.session_rules.specs.Calls.{refusal, next, offer_with, buffer_next}

-- opened alike: with equal sizes and header kind; of the framing byte D1 is enough
pub record OpenedAlike (o p : Opening) : Type 0 where
  pub frame : o.frame ≡ p.frame
  pub payload : o.payload ≡ p.payload
  pub framing : by_eof o ≡ by_eof p
  pub kind : o.kind ≡ p.kind

-- WHERE A SESSION IS, with its buffer, and where a call leads
pub record At : Type 0 where
  pub session : Session
  pub buffer : List ℕ

abbrev pub onward : At → Ask → At
onward x k = record { session = next x.session (offer_with x.buffer k); buffer = buffer_next x.session x.buffer k }

-- none of the calls is refused
abbrev pub NoneRefused : At → List Ask → Type 0
NoneRefused x [] = Unit {0}
NoneRefused x (k ∷ ks) = (refusal x.session (offer_with x.buffer k) ≡ 0) × NoneRefused (onward x k) ks

-- WHAT A CALL SAYS,
pub data Said : Type 0 where
  took : Outcome → Said
  noted : Report → Said
  shut : Closing → Said

abbrev pub said_of : At → Ask → Said
said_of x (Ask.transfer t) = Said.took (take_of x.session (length x.buffer) t).outcome
said_of x Ask.lost = Said.noted (lost_of x.session).report
said_of x Ask.close = Said.shut (close_of x.session).closing

-- the length of the frame that it delivers or hands out,
abbrev pub fate_length : Fate → ℕ
fate_length Fate.Idle = 0
fate_length Fate.Kept = 0
fate_length Fate.Stray = 0
fate_length (Fate.Delivered d) = d.len
fate_length (Fate.Still d) = d.len
fate_length (Fate.Dropped why) = 0
fate_length (Fate.Unreadable k) = 0

abbrev pub out_length : Said → ℕ
out_length (Said.took (Outcome.Refused k)) = 0
out_length (Said.took (Outcome.Taken a)) = fate_length a.fate
out_length (Said.took (Outcome.Handed x)) = x.delivery.len
out_length (Said.noted x) = 0
out_length (Said.shut x) = 0

-- and how much of a frame under way is written
abbrev pub fill_of : Phase → ℕ
fill_of Fresh = 0
fill_of (Under r) = r.fill
fill_of (Past f) = 0

abbrev pub way_of : At → List ℕ
way_of x = take (fill_of x.session.rest.track.phase) x.buffer

-- ALL THAT A CALLER HEARS of a call: what it says, the bytes of the frame that it delivers or hands out, and those of the frame that is under way after it
pub record Heard : Type 0 where
  pub said : Said
  pub handed : List ℕ
  pub way : List ℕ

abbrev pub hears : At → Ask → Heard
hears x k = record { said = said_of x k; handed = take (out_length (said_of x k)) (onward x k).buffer; way = way_of (onward x k) }

abbrev pub heard : At → List Ask → List Heard
heard x [] = []
heard x (k ∷ ks) = hears x k ∷ heard (onward x k) ks

-- THE SAME FROM HERE ON: opened alike, equal tracks, and buffers that agree on the bytes of the frame under way. Ledgers and transfers taken may differ.
pub record Same (x y : At) : Type 0 where
  pub opening : OpenedAlike x.session.rest.opening y.session.rest.opening
  pub track : x.session.rest.track ≡ y.session.rest.track
  pub way : way_of x ≡ way_of y
