-- EACH OPERATION ON THE RECORD GIVES THE RECORD OF THE OLD RESULT (document 02, Eight), hand-outs and refusals included; and before it, that no call depends on what stands in the two places
-- of the frame under way.
use Rattle.std.specs.Prelude.{Ok}
use Prim.Native.Nat.{ℕ, zero, suc, ◌-◌}
use mathlib.Core.Path.{◌≡◌, refl, sym, ap, ◌∙◌}
use mathlib.Core.Bool.{Bool, true, false}
use mathlib.Core.List.{List}
use lib.ListN.{length}
use Rattle.rules.specs.Numbered.{first_row}
use Rattle.session_rules.specs.declared.Header.{Header}
use Rattle.session_rules.specs.declared.Reading.{Reading}
use Rattle.session_rules.specs.declared.Reading.TheVariants.{Idle, Unreadable, Readable}
use Rattle.session_rules.specs.Transfer.{reading_of}
use Rattle.session_rules.specs.declared.Phase.{Phase}
use Rattle.session_rules.specs.declared.Turn.{Turn}
use Rattle.session_rules.specs.Track.{under_count, under_bytes, handing}
use Rattle.session_rules.specs.Turns.{turn_of, out_of, idle_turn, unread_turn, spoilt_of, closed_of}
use Rattle.session_rules.specs.declared.Ledger.{Ledger}
use Rattle.session_rules.specs.Entry.{Entry}
use Rattle.session_rules.specs.Ledger.{post_of}
use Rattle.session_rules.specs.Rule50.{rule50}
use Rattle.session_rules.specs.Refusals.{take_rows_by, lost_rows_by, close_rows_by}
use Rattle.session_rules.specs.declared.Session.{Session}
use Rattle.session_rules.specs.declared.Outcome.{Outcome}
use Rattle.session_rules.specs.declared.Taken.{Taken}
use Rattle.session_rules.specs.declared.Reported.{Reported}
use Rattle.session_rules.specs.declared.Closed.{Closed}
use Rattle.session_rules.specs.Refusals.{posted_of, ledger_of, record_broken, take_rows, lost_rows, close_rows}
use Rattle.session_rules.specs.Session.{counted_of, taken_by, read_of, took_by, took_of, hands_for, hands_out, passed_of, handed_of, met_by, met_of, take_by, take_of, took_buffer_by, took_buffer, met_buffer_by, buffer_by, buffer_of, lost_by, lost_of, close_by, close_of}
use Rattle.session.specs.Inner.{whole_of}
use Rattle.places.specs.Places.{record_of, broken54, Numbers}
use Rattle.places.proofs.Trips.{read_back, laid-fine}
use Rattle.ledger_record.specs.Dead.{under_is, dead, dead_taken, dead_reported, dead_closed}
use Rattle.ledger_record.specs.Recorded.{session_of, record_in, left, is_refused, is_refused_report, is_refused_closing, rest_taken, rest_reported, rest_closed, take_in, take_left, take_buffer, lost_in, lost_left, close_in, close_left}
use Rattle.ledger_record.specs.Recorded as recorded
use Rattle.ledger_record.proofs.Dead.{shown-over, shown-under, post-dead, ended-dead, fated-dead, answered-dead}

-- what close makes of a session, by its ledger
abbrev shut_by : Session → Ledger → Closed
shut_by s l =
    record {
      session = record { rest = record { opening = s.rest.opening; closed = true; taken = s.rest.taken; track = (closed_of s.rest.track).track; last = l.last }; numbers = l.numbers };
      closing = Ok (closed_of s.rest.track).ended;
    }

module _ (c b : ℕ) where
  -- ---- the ledger that is shown, and 50
  pub ledger-dead : (s : Session) → ledger_of (dead c b s) ≡ ledger_of s
  ledger-dead s = shown-over c b (posted_of s) s.rest.track.phase

  broken-dead : (s : Session) → record_broken (dead c b s) ≡ record_broken s
  broken-dead s = ap (λ (l : Ledger). rule50 s.rest.opening s.rest.track.phase l s.rest.taken) (ledger-dead s)

  -- ---- take
  taken-dead : (s : Session) (l m : Ledger) (x : Turn) → m ≡ under_is c b l → taken_by (dead c b s) m x ≡ dead_taken c b (taken_by s l x)
  taken-dead s l m x e =
      ap (λ (k : Ledger). taken_by (dead c b s) k x) e
      ∙ ap (λ (k : Ledger). record { session = counted_of (dead c b s) x.track k; outcome = Outcome.Taken x.answer }) (answered-dead c b l x.answer x.gone x.bytes)

  took-dead : (s : Session) (t : List ℕ) (r : Reading) → took_by r (dead c b s) t ≡ dead_taken c b (took_by r s t)
  unfolding read_of
  took-dead s t Idle = taken-dead s (posted_of s) (posted_of (dead c b s)) (idle_turn s.rest.track) refl
  took-dead s t (Unreadable k) = taken-dead s (posted_of s) (posted_of (dead c b s)) (unread_turn s.rest.track k (length t)) refl
  took-dead s t (Readable h) =
      taken-dead s (post_of (posted_of s) (Entry.Headers h.len)) (post_of (posted_of (dead c b s)) (Entry.Headers h.len)) (turn_of s.rest.opening s.rest.track h (length t - h.len))
      (post-dead c b (posted_of s) (Entry.Headers h.len) tt)

  handed-dead : (s : Session) → handed_of (dead c b s) ≡ dead_taken c b (handed_of s)
  unfolding handed_of
  handed-dead s =
      let x = out_of s.rest.track in
      ap (λ (l : Ledger). record { session = passed_of s x l; outcome = Outcome.Handed x.frame })
      (fated-dead c b (posted_of s) (handing x.frame.still x.frame.delivery) x.frame.delivery.len)

  hands-dead : (s : Session) (t : List ℕ) → hands_out (dead c b s) t ≡ hands_out s t
  unfolding hands_out
  hands-dead s t = go (reading_of s.rest.opening t)
    where
      go : (r : Reading) → hands_for r (dead c b s) ≡ hands_for r s
      go Idle = refl
      go (Unreadable k) = refl
      go (Readable h) = refl

  met_by_lem : (s : Session) (t : List ℕ) (x : Bool) → met_by x (dead c b s) t ≡ dead_taken c b (met_by x s t)
  unfolding took_of
  met_by_lem s t true = handed-dead s
  met_by_lem s t false = took-dead s t (reading_of s.rest.opening t)

  met-dead : (s : Session) (t : List ℕ) → met_of (dead c b s) t ≡ dead_taken c b (met_of s t)
  met-dead s t = ap (λ (x : Bool). met_by x (dead c b s) t) (hands-dead s t) ∙ met_by_lem s t (hands_out s t)

  take-rows : (s : Session) (room n : ℕ) → first_row (take_rows (dead c b s) room n) ≡ first_row (take_rows s room n)
  take-rows s room n = ap (λ (x : Bool). first_row (take_rows_by x s.rest.closed s.rest.taken s.rest.opening.frame room n)) (broken-dead s)

  -- NO CALL DEPENDS ON THE TWO PLACES: whatever stands there, a take is refused alike, answers alike and leaves the same rest, and the same numbers but for these two, which stay as they are
  pub dead-take : (s : Session) (room : ℕ) (t : List ℕ) → take_of (dead c b s) room t ≡ dead_taken c b (take_of s room t)
  unfolding take_of
  dead-take s room t = ap (λ (k : ℕ). take_by k (dead c b s) t) (take-rows s room (length t)) ∙ go (first_row (take_rows s room (length t)))
    where
      go : (k : ℕ) → take_by k (dead c b s) t ≡ dead_taken c b (take_by k s t)
      go zero = met-dead s t
      go (suc k) = refl

  -- and writes the same bytes
  pub dead-buffer : (s : Session) (buffer t : List ℕ) → buffer_of (dead c b s) buffer t ≡ buffer_of s buffer t
  unfolding buffer_of took_buffer
  dead-buffer s buffer t = ap (λ (k : ℕ). buffer_by k (dead c b s) buffer t) (take-rows s (length buffer) (length t)) ∙ go (first_row (take_rows s (length buffer) (length t)))
    where
      by : (x : Bool) → met_buffer_by x (dead c b s) buffer t ≡ met_buffer_by x s buffer t
      by true = refl
      by false = reads (reading_of s.rest.opening t)
        where
          reads : (r : Reading) → took_buffer_by r (dead c b s) buffer t ≡ took_buffer_by r s buffer t
          reads Idle = refl
          reads (Unreadable k) = refl
          reads (Readable h) = refl

      go : (k : ℕ) → buffer_by k (dead c b s) buffer t ≡ buffer_by k s buffer t
      go zero = ap (λ (x : Bool). met_buffer_by x (dead c b s) buffer t) (hands-dead s t) ∙ by (hands_out s t)
      go (suc k) = refl

  -- a lost report
  pub dead-lost : (s : Session) → lost_of (dead c b s) ≡ dead_reported c b (lost_of s)
  unfolding lost_of
  dead-lost s = ap (λ (k : ℕ). lost_by k (dead c b s)) rows ∙ go (first_row (lost_rows s))
    where
      rows : first_row (lost_rows (dead c b s)) ≡ first_row (lost_rows s)
      rows = ap (λ (x : Bool). first_row (lost_rows_by x s.rest.closed s.rest.taken)) (broken-dead s)

      go : (k : ℕ) → lost_by k (dead c b s) ≡ dead_reported c b (lost_by k s)
      go zero = ap (λ (l : Ledger). record { session = counted_of s (spoilt_of s.rest.track) l; report = Ok tt }) (post-dead c b (posted_of s) Entry.Lost tt)
      go (suc k) = refl

  -- and close
  pub dead-close : (s : Session) → close_of (dead c b s) ≡ dead_closed c b (close_of s)
  unfolding close_of
  dead-close s = ap (λ (k : ℕ). close_by k (dead c b s)) rows ∙ go (first_row (close_rows s))
    where
      rows : first_row (close_rows (dead c b s)) ≡ first_row (close_rows s)
      rows = ap (λ (x : Bool). first_row (close_rows_by x s.rest.closed)) (broken-dead s)

      go : (k : ℕ) → close_by k (dead c b s) ≡ dead_closed c b (close_by k s)
      go zero = ap (shut_by s) (ended-dead c b (posted_of s) (closed_of s.rest.track).ended (closed_of s.rest.track).gone)
      go (suc k) = refl

-- ---- a refused call leaves the session, and so its record; every other call leaves the record of what it made
read_left : (s : Session) (r t : List ℕ) (h : Header) → left (is_refused (read_of s h (length t - h.len)).outcome) r (read_of s h (length t - h.len)).session ≡ record_in (read_of s h (length t - h.len)).session
unfolding read_of
read_left s r t h = refl

met-left : (s : Session) (r : List ℕ) (t : List ℕ) (x : Bool) → left (is_refused (met_by x s t).outcome) r (met_by x s t).session ≡ record_in (met_by x s t).session
unfolding handed_of took_of
met-left s r t true = refl
met-left s r t false = go (reading_of s.rest.opening t)
  where
    go : (y : Reading) → left (is_refused (took_by y s t).outcome) r (took_by y s t).session ≡ record_in (took_by y s t).session
    go Idle = refl
    go (Unreadable k) = refl
    go (Readable h) = read_left s r t h

take_left_lem : (s : Session) (room : ℕ) (t : List ℕ) → left (is_refused (take_of s room t).outcome) (record_in s) (take_of s room t).session ≡ record_in (take_of s room t).session
unfolding take_of
take_left_lem s room t = go (first_row (take_rows s room (length t)))
  where
    go : (k : ℕ) → left (is_refused (take_by k s t).outcome) (record_in s) (take_by k s t).session ≡ record_in (take_by k s t).session
    go zero = met-left s (record_in s) t (hands_out s t)
    go (suc k) = refl

lost-left : (s : Session) → left (is_refused_report (lost_of s).report) (record_in s) (lost_of s).session ≡ record_in (lost_of s).session
unfolding lost_of
lost-left s = go (first_row (lost_rows s))
  where
    go : (k : ℕ) → left (is_refused_report (lost_by k s).report) (record_in s) (lost_by k s).session ≡ record_in (lost_by k s).session
    go zero = refl
    go (suc k) = refl

close-left : (s : Session) → left (is_refused_closing (close_of s).closing) (record_in s) (close_of s).session ≡ record_in (close_of s).session
unfolding close_of
close-left s = go (first_row (close_rows s))
  where
    go : (k : ℕ) → left (is_refused_closing (close_by k s).closing) (record_in s) (close_by k s).session ≡ record_in (close_by k s).session
    go zero = refl
    go (suc k) = refl

-- ---- THE SQUARE: a session whose numbers fit, and the record of it
module _ (s : Session) (w : Numbers (ledger_of s).numbers) where
  abbrev p : Phase
  p = s.rest.track.phase

  -- the session that the record holds is this one, with its frame under way shown
  holds : session_of (record_in s) s.rest ≡ dead (under_count p) (under_bytes p) s
  holds = ap (whole_of s.rest) (read_back (ledger_of s).numbers w ∙ ap (λ (l : Ledger). l.numbers) (shown-under (posted_of s) p))

  fine : false ≡ broken54 (record_in s)
  fine = sym (laid-fine (ledger_of s).numbers w)

  record-dead : (z : Session) → record_in (dead (under_count p) (under_bytes p) z) ≡ record_in z
  record-dead z = ap (λ (l : Ledger). record_of l.numbers) (ledger-dead (under_count p) (under_bytes p) z)

  left-dead : (x : Bool) (r : List ℕ) (z : Session) → left x r (dead (under_count p) (under_bytes p) z) ≡ left x r z
  left-dead true r z = refl
  left-dead false r z = record-dead z

  took : (room : ℕ) (t : List ℕ) → take_of (session_of (record_in s) s.rest) room t ≡ dead_taken (under_count p) (under_bytes p) (take_of s room t)
  took room t = ap (λ (z : Session). take_of z room t) holds ∙ dead-take (under_count p) (under_bytes p) s room t

  pub square-take : (room : ℕ) (t : List ℕ)
      → (take_in (record_in s) s.rest room t ≡ rest_taken (take_of s room t)) × (take_left (record_in s) s.rest room t ≡ record_in (take_of s room t).session)
  unfolding take_in take_left
  square-take room t = (
    ap (λ (x : Bool). recorded.take_by x (record_in s) s.rest room t) (sym fine) ∙ ap rest_taken (took room t),
    ap (λ (x : Bool). recorded.take_left_by x (record_in s) s.rest room t) (sym fine)
        ∙ ap (λ (x : Taken). left (is_refused x.outcome) (record_in s) x.session) (took room t)
        ∙ left-dead (is_refused (take_of s room t).outcome) (record_in s) (take_of s room t).session
        ∙ take_left_lem s room t,
  )

  pub square-buffer : (buffer t : List ℕ) → take_buffer (record_in s) s.rest buffer t ≡ buffer_of s buffer t
  unfolding take_buffer
  square-buffer buffer t =
      ap (λ (x : Bool). recorded.take_buffer_by x (record_in s) s.rest buffer t) (sym fine)
      ∙ ap (λ (z : Session). buffer_of z buffer t) holds
      ∙ dead-buffer (under_count p) (under_bytes p) s buffer t

  lost-held : lost_of (session_of (record_in s) s.rest) ≡ dead_reported (under_count p) (under_bytes p) (lost_of s)
  lost-held = ap lost_of holds ∙ dead-lost (under_count p) (under_bytes p) s

  pub square-lost : (lost_in (record_in s) s.rest ≡ rest_reported (lost_of s)) × (lost_left (record_in s) s.rest ≡ record_in (lost_of s).session)
  unfolding lost_in lost_left
  square-lost = (
    ap (λ (x : Bool). recorded.lost_by x (record_in s) s.rest) (sym fine) ∙ ap rest_reported lost-held,
    ap (λ (x : Bool). recorded.lost_left_by x (record_in s) s.rest) (sym fine)
        ∙ ap (λ (x : Reported). left (is_refused_report x.report) (record_in s) x.session) lost-held
        ∙ left-dead (is_refused_report (lost_of s).report) (record_in s) (lost_of s).session
        ∙ lost-left s,
  )

  close-held : close_of (session_of (record_in s) s.rest) ≡ dead_closed (under_count p) (under_bytes p) (close_of s)
  close-held = ap close_of holds ∙ dead-close (under_count p) (under_bytes p) s

  pub square-close : (close_in (record_in s) s.rest ≡ rest_closed (close_of s)) × (close_left (record_in s) s.rest ≡ record_in (close_of s).session)
  unfolding close_in close_left
  square-close = (
    ap (λ (x : Bool). recorded.close_by x (record_in s) s.rest) (sym fine) ∙ ap rest_closed close-held,
    ap (λ (x : Bool). recorded.close_left_by x (record_in s) s.rest) (sym fine)
        ∙ ap (λ (x : Closed). left (is_refused_closing x.closing) (record_in s) x.session) close-held
        ∙ left-dead (is_refused_closing (close_of s).closing) (record_in s) (close_of s).session
        ∙ close-left s,
  )
