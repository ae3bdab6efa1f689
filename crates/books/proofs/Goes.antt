-- A call that is not refused: what it says, where it leads and what it leaves in the buffer are functions of the opening, the track and the buffer alone.
use Rattle.std.specs.Prelude.{None, Some}
use Rattle.session_rules.specs.Options.{Fault}
use Prim.Native.Nat.{ℕ, ◌-◌, ◌≤◌}
use mathlib.Core.Path.{◌≡◌, refl, ap, ◌∙◌}
use mathlib.Core.Bool.{Bool, true, false}
use mathlib.Core.List.{List, []}
use native.Mathlib.Omega.{arith}
use lib.ListN.{length, drop}
use lib.Seq.{paste, paste-zero}
use borrow.Author.Tests.{ltb-false}
use Rattle.rules.specs.Numbered.{NoneOf}
use Rattle.rules.proofs.Rows.{row-none}
use Rattle.sizes.specs.declared.Opening.{Opening}
use Rattle.session_rules.specs.declared.Reading.{Reading}
use Rattle.session_rules.specs.declared.Reading.TheVariants.{Idle, Unreadable, Readable}
use Rattle.session_rules.specs.Transfer.{reading_of}
use Rattle.session_rules.specs.declared.Phase.{Phase}
use Rattle.session_rules.specs.declared.Phase.TheVariants.{Fresh, Under, Past}
use Rattle.session_rules.specs.declared.Track.{Track}
use Rattle.session_rules.specs.declared.Turn.{Turn}
use Rattle.session_rules.specs.Track.{FilledBy}
use Rattle.session_rules.specs.Turns.{turn_of, hands_of, out_of, idle_turn, unread_turn}
use Rattle.session_rules.specs.declared.Session.{Session}
use Rattle.session_rules.specs.declared.Outcome.{Outcome}
use Rattle.session_rules.specs.declared.Taken.{Taken}
use Rattle.session_rules.specs.Refusals.{take_rows}
use Rattle.session_rules.proofs.Record50.{row-50}
use Rattle.session_rules.specs.Session.{take_by, take_of, buffer_by, buffer_of, met_by, met_buffer_by, hands_for, hands_out, handed_of, took_by, took_of, took_buffer_by, took_buffer, read_of}
use Rattle.session_rules.specs.Call.{Ask}
use Rattle.session_rules.specs.Calls.{Offer, refusal}
use Rattle.books.proofs.Sound.{Snug, Fit}
use Rattle.books.specs.Alike.{At, onward, Said, said_of}

-- ---- what is not refused is sound and has room
pub record Fine (s : Session) (b : List ℕ) : Type 0 where
  pub fit : Fit s.rest.opening.frame s.rest.track.phase
  pub room : s.rest.opening.frame ≤ length b

fit-filled : (o : Opening) (ph : Phase) → FilledBy o ph → Fit o.frame ph
fit-filled o Fresh f = tt
fit-filled o (Past g) f = tt
fit-filled o (Under r) f = go r.fault f.whole
  where
    go : (q : Fault) → (q ≡ None → r.fill ≡ r.bytes) → Snug o.frame q r.fill r.bytes
    go None w = let e : r.fill ≡ r.bytes = w refl in (e, omega (arith, f.within))
    go (Some w) k = f.within

pub fine : (s : Session) (b t : List ℕ) → refusal s (Offer.take b t) ≡ 0 → Fine s b
fine s b t e =
    let n : NoneOf (take_rows s (length b) (length t)) = row-none (take_rows s (length b) (length t)) (omega arith, (omega arith, (omega arith, (omega arith, (omega arith, tt))))) e in
    record { fit = fit-filled s.rest.opening s.rest.track.phase ((row-50 s).0 n.0).fill; room = ltb-false (length b) s.rest.opening.frame n.1.1.1.0 }

-- ---- a transfer
abbrev pub hands_in : Reading → Opening → Track → Bool
hands_in Idle o T = false
hands_in (Unreadable k) o T = false
hands_in (Readable h) o T = hands_of o T h

abbrev pub turn_for : Reading → Opening → Track → List ℕ → Turn
turn_for Idle o T t = idle_turn T
turn_for (Unreadable k) o T t = unread_turn T k (length t)
turn_for (Readable h) o T t = turn_of o T h (length t - h.len)

abbrev pub data_for : Reading → List ℕ → List ℕ
data_for Idle t = []
data_for (Unreadable k) t = []
data_for (Readable h) t = drop h.len t

abbrev pub track_by : Bool → Turn → Track → Track
track_by true X T = (out_of T).track
track_by false X T = X.track

abbrev pub outcome_by : Bool → Turn → Track → Outcome
outcome_by true X T = Outcome.Handed (out_of T).frame
outcome_by false X T = Outcome.Taken X.answer

abbrev pub pasted_by : Bool → Turn → List ℕ → List ℕ → List ℕ
pasted_by true X d B = B
pasted_by false X d B = paste B X.at d X.len

pub record Goes (x : At) (t : List ℕ) (c : Bool) (X : Turn) (d : List ℕ) : Type 0 where
  pub opening : (onward x (Ask.transfer t)).session.rest.opening ≡ x.session.rest.opening
  pub track : (onward x (Ask.transfer t)).session.rest.track ≡ track_by c X x.session.rest.track
  pub said : said_of x (Ask.transfer t) ≡ Said.took (outcome_by c X x.session.rest.track)
  pub buffer : (onward x (Ask.transfer t)).buffer ≡ pasted_by c X d x.buffer

met_r : Bool → Reading → Session → List ℕ → Taken
met_r true R s t = handed_of s
met_r false R s t = took_by R s t

buf_r : Bool → Reading → Session → List ℕ → List ℕ → List ℕ
buf_r true R s B t = B
buf_r false R s B t = took_buffer_by R s B t

record GoesR (s : Session) (B t : List ℕ) (c : Bool) (R : Reading) : Type 0 where
  pub opening : (met_r c R s t).session.rest.opening ≡ s.rest.opening
  pub track : (met_r c R s t).session.rest.track ≡ track_by c (turn_for R s.rest.opening s.rest.track t) s.rest.track
  pub said : (met_r c R s t).outcome ≡ outcome_by c (turn_for R s.rest.opening s.rest.track t) s.rest.track
  pub buffer : buf_r c R s B t ≡ pasted_by c (turn_for R s.rest.opening s.rest.track t) (data_for R t) B

goes-r : (s : Session) (B t : List ℕ) (c : Bool) (R : Reading) → GoesR s B t c R
unfolding met_r buf_r handed_of read_of
goes-r s B t true R = record { opening = refl; track = refl; said = refl; buffer = refl }
goes-r s B t false Idle = record { opening = refl; track = refl; said = refl; buffer = paste-zero B 0 [] }
goes-r s B t false (Unreadable k) = record { opening = refl; track = refl; said = refl; buffer = paste-zero B 0 [] }
goes-r s B t false (Readable h) = record { opening = refl; track = refl; said = refl; buffer = refl }

hands-is : (s : Session) (R : Reading) → hands_for R s ≡ hands_in R s.rest.opening s.rest.track
hands-is s Idle = refl
hands-is s (Unreadable k) = refl
hands-is s (Readable h) = refl

met-is : (s : Session) (t : List ℕ) (c : Bool) → met_by c s t ≡ met_r c (reading_of s.rest.opening t) s t
unfolding met_r took_of
met-is s t true = refl
met-is s t false = refl

buf-is : (s : Session) (B t : List ℕ) (c : Bool) → met_buffer_by c s B t ≡ buf_r c (reading_of s.rest.opening t) s B t
unfolding buf_r took_buffer
buf-is s B t true = refl
buf-is s B t false = refl

pub goes : (x : At) (t : List ℕ) → refusal x.session (Offer.take x.buffer t) ≡ 0
    → Goes x t (hands_in (reading_of x.session.rest.opening t) x.session.rest.opening x.session.rest.track) (turn_for (reading_of x.session.rest.opening t) x.session.rest.opening x.session.rest.track t) (data_for (reading_of x.session.rest.opening t) t)
unfolding take_of buffer_of hands_out
goes x t e =
    record {
      opening = ap (λ (y : Taken). y.session.rest.opening) taken_is ∙ g.opening;
      track = ap (λ (y : Taken). y.session.rest.track) taken_is ∙ g.track;
      said = ap (λ (y : Taken). Said.took y.outcome) taken_is ∙ ap Said.took g.said;
      buffer = buffer-is ∙ g.buffer;
    }
  where
    s : Session
    s = x.session

    R : Reading
    R = reading_of s.rest.opening t

    c : Bool
    c = hands_in R s.rest.opening s.rest.track

    g : GoesR s x.buffer t c R
    g = goes-r s x.buffer t c R

    taken_is : take_by (refusal s (Offer.take x.buffer t)) s t ≡ met_r c R s t
    taken_is = ap (λ (k : ℕ). take_by k s t) e ∙ ap (λ (b : Bool). met_by b s t) (hands-is s R) ∙ met-is s t c

    buffer-is : buffer_by (refusal s (Offer.take x.buffer t)) s x.buffer t ≡ buf_r c R s x.buffer t
    buffer-is = ap (λ (k : ℕ). buffer_by k s x.buffer t) e ∙ ap (λ (b : Bool). met_buffer_by b s x.buffer t) (hands-is s R) ∙ buf-is s x.buffer t c
