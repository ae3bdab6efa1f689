-- What each call answers, one law for each way through the code.
use Rattle.session_rules.specs.Options.{Stamp}
use Prim.Native.Nat.{ℕ, zero, suc, ◌+◌, ◌-◌, ◌≤◌}
use mathlib.Core.Path.{◌≡◌, refl, sym, ap, ◌∙◌}
use mathlib.Core.List.{List}
use mathlib.Core.Bool.{Bool, true, false}
use native.Mathlib.Omega.{arith}
use native.Mathlib.Nat.{add-sub_cancel_left}
use lib.ListN.{length, take, drop, length-drop}
use lib.Seq.{paste, paste-zero, length-take-le, take-length}
use Rattle.std.specs.Prelude.{Ok, Err}
use Rattle.rules.specs.Numbered.{first_row, kept}
use Rattle.rules.proofs.Kept.{err-is, err-above, ok-is}
use Rattle.sizes.specs.declared.Opening.{Opening}
use Rattle.session_rules.specs.declared.Header.{Header}
use Rattle.session_rules.specs.declared.Reading.{Reading}
use Rattle.session_rules.specs.declared.Reading.TheVariants.{Idle, Unreadable, Readable}
use Rattle.session_rules.specs.Transfer.{reading_of}
use Rattle.session_rules.proofs.Readings.{readable-fits}
use Rattle.session_rules.specs.declared.Track.{Track}
use Rattle.session_rules.specs.declared.Turn.{Turn}
use Rattle.session_rules.specs.declared.Shut.{Shut}
use Rattle.session_rules.specs.declared.Fate.{Fate}
use Rattle.session_rules.specs.declared.Out.{Out}
use Rattle.session_rules.specs.Track.{handing}
use Rattle.session_rules.specs.Turns.{plain_turn, turn_of, hands_of, out_of, spoilt_of, closed_of}
use Rattle.frames.proofs.Bounds.{Sits}
use Rattle.session_rules.specs.declared.Account.{Account}
use Rattle.session_rules.specs.declared.Ledger.{Ledger}
use Rattle.session_rules.specs.Accounts.{lost_at}
use Rattle.session_rules.specs.Ledger.{fated_of, answered_of}
use Rattle.ledger.specs.Inner.{plus_at, entered_in, ended_in, ledger_with}
use Rattle.ledger.proofs.Lent.{with-headers, with-lost, with-ended}
use Rattle.session_rules.specs.declared.Rest.{Rest}
use Rattle.session_rules.specs.declared.Session.{Session}
use Rattle.session_rules.specs.declared.Outcome.{Outcome}
use Rattle.session_rules.specs.declared.Taken.{Taken}
use Rattle.session.specs.declared.RestTaken.{RestTaken}
use Rattle.session.specs.declared.Posted.{Posted}
use Rattle.session_rules.specs.Refusals.{opening_rows, close_rows, lost_rows, take_rows}
use Rattle.session_rules.specs.Session.{fresh, no_session, open_by, open_of, counted_of, taken_by, read_of, read_buffer, plainly, took_of, took_buffer, hands_out, passed_of, handed_of, met_of, met_buffer, take_by, take_of, buffer_by, buffer_of, lost_by, lost_of, close_by, close_of}
use Rattle.short_way.specs.Inner.{counted_rest}
use Rattle.session.specs.Inner.{whole_of, taken_with, reported_with, closed_with, unwritten_of, Goes}

-- ---- open
module _ (o : Opening) (room : ℕ) (x : Session) where
  pub open-refused : (n : ℕ) → Err n ≡ kept (first_row (opening_rows o room)) → x ≡ no_session → record { session = x; start = Err n } ≡ open_of o room
  unfolding open_of
  open-refused n e q = let h = err-above n _ e in rw (err-is n _ e, q) (go n (λ z. omega arith))
    where
      go : (m : ℕ) → (m ≡ 0 → ⊥) → record { session = no_session; start = Err m } ≡ open_by m o
      go zero h = absurd (h refl)
      go (suc m) h = refl

  pub open-open : (u : Unit {0}) → Ok u ≡ kept (first_row (opening_rows o room)) → x ≡ fresh o → record { session = x; start = Ok tt } ≡ open_of o room
  unfolding open_of
  open-open u e q = rw (ok-is u _ e, q)

-- ---- take
-- a part of k bytes
pub part_length : (t : List ℕ) (from k : ℕ) → from + k ≤ length t → length (take (from + k - from) (drop from t)) ≡ k
part_length t from k h = rw (add-sub_cancel_left from k) (length-take-le k (drop from t) (rw length-drop (omega arith)))

-- it has room in the part of the buffer from `at` on
pub part-fits : (buffer t : List ℕ) (at from k : ℕ) → at + k ≤ length buffer → from + k ≤ length t
    → (at + length (take (from + k - from) (drop from t)) ≤ length buffer)
    × (length (take (from + k - from) (drop from t)) ≤ length (take (length buffer - at) (drop at buffer)))
part-fits buffer t at from k h g =
    let n = part_length t from k g in
    let m = length-take-le (length buffer - at) (drop at buffer) (rw length-drop (omega arith)) in
    (omega (arith, n), omega (arith, n, m))

pub put-buffer : (buffer t : List ℕ) (at from k : ℕ) → from + k ≤ length t →
    paste buffer at (take (from + k - from) (drop from t)) (length (take (from + k - from) (drop from t))) ≡ paste buffer at (drop from t) k
put-buffer buffer t at from k h = let q = part_length t from k h in rw (take-length, q, add-sub_cancel_left)

-- what is left to be written: nothing
goes-nowhere : (made : List ℕ → List ℕ) (room : ℕ) (t : List ℕ) (x : RestTaken) (y : Posted) → y ≡ unwritten_of x →
    ((b : List ℕ) → made b ≡ b) → Goes made room t y
goes-nowhere made room t x y e h =
    rw e (record { inside = omega arith; enough = omega arith; writes = λ b. h b ∙ paste-zero b 0 (drop 0 t) })

-- or the same as elsewhere
goes-as : (made other : List ℕ → List ℕ) (room : ℕ) (t : List ℕ) (y : Posted) → Goes made room t y →
    ((b : List ℕ) → other b ≡ made b) → Goes other room t y
goes-as made other room t y g q = record { inside = g.inside; enough = g.enough; writes = λ b. q b ∙ g.writes b }

-- a transfer that hands nothing out is taken
as-taken : (s : Session) (t : List ℕ) → hands_out s t ≡ false → (x : Taken) → x ≡ took_of s t → x ≡ met_of s t
as-taken s t e x p = rw e p

as_written : (s : Session) (t : List ℕ) → hands_out s t ≡ false → (b : List ℕ) → met_buffer s b t ≡ took_buffer s b t
as_written s t e b = rw e

abbrev pub Unread : Reading → Type 0
Unread Idle = Unit {0}
Unread (Unreadable k) = Unit {0}
Unread (Readable h) = ⊥

pub not-handed : (s : Session) (t : List ℕ) (x : Reading) → x ≡ reading_of s.rest.opening t → Unread x → hands_out s t ≡ false
unfolding hands_out
not-handed s t Idle e u = rw (← e)
not-handed s t (Unreadable k) e u = rw (← e)
not-handed s t (Readable h) e u = absurd u

-- a readable transfer, once its header and its answer are entered
pub read_done :
    (r : Rest) (l k m : List ℕ) (h : Header) (n : ℕ) (x : Turn) (last : Stamp) (y : Rest) → x ≡ turn_of r.opening r.track h n →
    k ≡ entered_in l Account.Headers h.len →
    ledger_with m last ≡ answered_of (ledger_with k r.last) x.answer x.gone x.bytes →
    y ≡ counted_rest r x.track last →
    taken_with (record { rest = y; outcome = Outcome.Taken x.answer }) m ≡ read_of (whole_of r l) h n
unfolding read_of
read_done r l k m h n x last y e p q v =
    ap (λ (z : Rest). taken_with (record { rest = z; outcome = Outcome.Taken x.answer }) m) v
    ∙ ap (λ (z : Ledger). record { session = counted_of (whole_of r l) x.track z; outcome = Outcome.Taken x.answer }) q
    ∙ rw (p, e, with-headers l r.last h.len)

-- its data is left to be written
pub read_goes : (s : Session) (h : Header) (t : List ℕ) (x : Turn) (y : RestTaken) →
    x ≡ turn_of s.rest.opening s.rest.track h (length t - h.len) →
    Sits s.rest.opening s.rest.track.phase (length t - h.len) x → h.len ≤ length t →
    Goes (λ b. read_buffer s h b t) s.rest.opening.frame t (record { taken = y; at = x.at; from = h.len; len = x.len })
read_goes s h t x y e q f =
    record {
      inside = omega (arith, q.inside);
      enough = omega (arith, q.short);
      writes = λ b. ap (λ (z : Turn). paste b z.at (drop h.len t) z.len) (sym e);
    }

module _ (r : Rest) (l t : List ℕ) where
  abbrev s : Session
  s = whole_of r l

  -- the answer, and what is left to be written
  abbrev pub Meets : Posted → List ℕ → Type 0
  Meets y m = (taken_with y.taken m ≡ met_of s t) × Goes (λ b. met_buffer s b t) r.opening.frame t y

  unwritten : (x : RestTaken) (y : Posted) (m : List ℕ) → y ≡ unwritten_of x → taken_with x m ≡ met_of s t →
      ((b : List ℕ) → met_buffer s b t ≡ b) → Meets y m
  unwritten x y m e p q =
      (ap (λ (z : Posted). taken_with z.taken m) e ∙ p, goes-nowhere (λ b. met_buffer s b t) r.opening.frame t x y e q)

  -- a transfer that is no part of a frame, once its fate is entered
  fated-done : (f : Fate) (n : ℕ) (m : List ℕ) (last : Stamp) (w : Track) (y : Rest) →
      ledger_with m last ≡ fated_of (ledger_with l r.last) f n → y ≡ counted_rest r w last →
      taken_with (record { rest = y; outcome = Outcome.Taken (plainly f) }) m ≡ taken_by s (ledger_with l r.last) (plain_turn w f n)
  fated-done f n m last w y p q =
      ap (λ (z : Rest). taken_with (record { rest = z; outcome = Outcome.Taken (plainly f) }) m) q
      ∙ ap (λ (z : Ledger). record { session = counted_of s w z; outcome = Outcome.Taken (plainly f) }) p

  pub took-idle : (x : Reading) (m : List ℕ) (last : Stamp) (y : Rest) (z : Posted) → x ≡ reading_of r.opening t → x ≡ Idle →
      ledger_with m last ≡ fated_of (ledger_with l r.last) Fate.Idle 0 → y ≡ counted_rest r r.track last →
      z ≡ unwritten_of (record { rest = y; outcome = Outcome.Taken (plainly Fate.Idle) }) → Meets z m
  unfolding took_of took_buffer
  took-idle x m last y z e i p q v =
      let h = not-handed s t x e (rw i tt) in
      unwritten _ z m v (as-taken s t h _ (rw (← e, i) (fated-done Fate.Idle 0 m last r.track y p q)))
      (λ b. as_written s t h b ∙ rw (← e, i))

  pub took-unreadable : (x : Reading) (k : ℕ) (m : List ℕ) (last : Stamp) (w : Track) (y : Rest) (z : Posted) →
      x ≡ reading_of r.opening t → x ≡ Unreadable k →
      ledger_with m last ≡ fated_of (ledger_with l r.last) (Fate.Unreadable k) (length t) → w ≡ spoilt_of r.track →
      y ≡ counted_rest r w last → z ≡ unwritten_of (record { rest = y; outcome = Outcome.Taken (plainly (Fate.Unreadable k)) }) → Meets z m
  unfolding took_of took_buffer
  took-unreadable x k m last w y z e i p u q v =
      let h = not-handed s t x e (rw i tt) in
      unwritten _ z m v (as-taken s t h _ (rw (← e, i, ← u) (fated-done (Fate.Unreadable k) (length t) m last w y p q)))
      (λ b. as_written s t h b ∙ rw (← e, i))

  pub took-readable : (x : Reading) (h : Header) (g : Bool) (z : Posted) (m : List ℕ) → x ≡ reading_of r.opening t → x ≡ Readable h →
      g ≡ hands_of r.opening r.track h → g ≡ false → taken_with z.taken m ≡ read_of s h (length t - h.len) →
      Goes (λ b. read_buffer s h b t) r.opening.frame t z → Meets z m
  unfolding took_of took_buffer hands_out
  took-readable x h g z m e i f n p q =
      let k : hands_out s t ≡ false = rw (← e, i, ← f, n) refl in (
        as-taken s t k _ (rw (← e, i) p),
        goes-as (λ b. read_buffer s h b t) (λ b. met_buffer s b t) _ t z q (λ b. as_written s t k b ∙ rw (← e, i)),
      )

  -- a frame handed out in its place
  pub handed_out : (x : Reading) (h : Header) (g : Bool) (y : RestTaken) (z : Posted) (m : List ℕ) → x ≡ reading_of r.opening t →
      x ≡ Readable h → g ≡ hands_of r.opening r.track h → g ≡ true → taken_with y m ≡ handed_of s → z ≡ unwritten_of y → Meets z m
  unfolding hands_out
  handed_out x h g y z m e i f n p v = unwritten y z m v (rw (← e, i, ← f, n) p) (λ b. rw (← e, i, ← f, n) refl)

  pub handed-done : (x : Out) (f : Fate) (m : List ℕ) (last : Stamp) → x ≡ out_of r.track → f ≡ handing x.frame.still x.frame.delivery →
      ledger_with m last ≡ fated_of (ledger_with l r.last) f x.frame.delivery.len →
      taken_with (record {
        rest = record { opening = r.opening; closed = r.closed; taken = r.taken; track = x.track; last = last };
        outcome = Outcome.Handed x.frame;
      }) m ≡ handed_of s
  unfolding handed_of
  handed-done x f m last e g p =
      ap (λ (z : Ledger). record { session = passed_of s x z; outcome = Outcome.Handed x.frame }) p ∙ rw (g, e)

  pub header-within : (x : Reading) (h : Header) → x ≡ reading_of r.opening t → x ≡ Readable h → h.len ≤ length t
  header-within x h e i = (readable-fits r.opening t h (sym e ∙ i)).inside

  module _ (room n : ℕ) (e : Err n ≡ kept (first_row (take_rows s room (length t)))) where
    above : n ≡ 0 → ⊥
    above z = let h = err-above n (first_row (take_rows s room (length t))) e in omega arith

    pub take-refused : taken_with (record { rest = r; outcome = Outcome.Refused n }) l ≡ take_of s room t
    unfolding take_of
    take-refused = rw (err-is n _ e) (go n above)
      where
        go : (m : ℕ) → (m ≡ 0 → ⊥) → record { session = s; outcome = Outcome.Refused m } ≡ take_by m s t
        go zero h = absurd (h refl)
        go (suc m) h = refl

    pub buffer-refused : (b : List ℕ) → length b ≡ room → b ≡ buffer_of s b t
    unfolding buffer_of
    buffer-refused b q = rw (q, err-is n _ e) (go n above)
      where
        go : (m : ℕ) → (m ≡ 0 → ⊥) → b ≡ buffer_by m s b t
        go zero h = absurd (h refl)
        go (suc m) h = refl

  module _ (room : ℕ) (e : first_row (take_rows s room (length t)) ≡ 0) where
    pub take-met : (y : RestTaken) (m : List ℕ) → taken_with y m ≡ met_of s t → taken_with y m ≡ take_of s room t
    unfolding take_of
    take-met y m p = rw e p

    pub buffer-met : (b after : List ℕ) → length b ≡ room → after ≡ met_buffer s b t → after ≡ buffer_of s b t
    unfolding buffer_of
    buffer-met b after q p = rw (q, e) p

-- once that is written
pub put-met : (s : Session) (buffer t : List ℕ) (x : Posted) → Goes (λ b. met_buffer s b t) s.rest.opening.frame t x →
    paste buffer x.at (take (x.from + x.len - x.from) (drop x.from t)) (length (take (x.from + x.len - x.from) (drop x.from t)))
    ≡ met_buffer s buffer t
put-met s buffer t x g = put-buffer buffer t x.at x.from x.len g.enough ∙ sym (g.writes buffer)

-- ---- lost
module _ (r : Rest) (l : List ℕ) where
  pub lost-refused : (n : ℕ) → Err n ≡ kept (first_row (lost_rows (whole_of r l))) →
      reported_with (record { rest = r; report = Err n }) l ≡ lost_of (whole_of r l)
  unfolding lost_of
  lost-refused n e = let h = err-above n _ e in rw (err-is n _ e) (go n (λ z. omega arith))
    where
      go : (m : ℕ) → (m ≡ 0 → ⊥) → record { session = whole_of r l; report = Err m } ≡ lost_by m (whole_of r l)
      go zero h = absurd (h refl)
      go (suc m) h = refl

  pub lost-noted : (m : List ℕ) (w : Track) → first_row (lost_rows (whole_of r l)) ≡ 0 → m ≡ plus_at l lost_at 1 → w ≡ spoilt_of r.track →
      reported_with (record {
        rest = record { opening = r.opening; closed = r.closed; taken = r.taken + 1; track = w; last = r.last };
        report = Ok tt;
      }) m ≡ lost_of (whole_of r l)
  unfolding lost_of
  lost-noted m w e p v = rw (e, p, v, with-lost l r.last)

-- ---- close
module _ (r : Rest) (l : List ℕ) where
  pub close-refused : (n : ℕ) → Err n ≡ kept (first_row (close_rows (whole_of r l))) →
      closed_with (record { rest = r; closing = Err n }) l ≡ close_of (whole_of r l)
  unfolding close_of
  close-refused n e = let h = err-above n _ e in rw (err-is n _ e) (go n (λ z. omega arith))
    where
      go : (m : ℕ) → (m ≡ 0 → ⊥) → record { session = whole_of r l; closing = Err m } ≡ close_by m (whole_of r l)
      go zero h = absurd (h refl)
      go (suc m) h = refl

  pub close-closed : (w : Shut) (m : List ℕ) → first_row (close_rows (whole_of r l)) ≡ 0 → w ≡ closed_of r.track → m ≡ ended_in l w.ended w.gone →
      closed_with (
      record {
        rest = record { opening = r.opening; closed = true; taken = r.taken; track = w.track; last = r.last };
        closing = Ok w.ended;
      }
      ) m ≡ close_of (whole_of r l)
  unfolding close_of
  close-closed w m e p q = rw (e, q, p, with-ended l r.last (closed_of r.track).ended (closed_of r.track).gone)
