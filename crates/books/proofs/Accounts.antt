-- Each number of the ledger that a session shows is the rule's.
use Rattle.std.specs.Prelude.{None, Some}
use Rattle.session_rules.specs.Options.{Ended, Stamp}
use Prim.Native.Nat.{ℕ, ◌+◌, ◌-◌, ◌≤◌, ◌<◌}
use mathlib.Core.Path.{◌≡◌, refl, sym, ◌∙◌, ap, subst}
use mathlib.Core.Bool.{Bool, true, false}
use mathlib.Core.List.{List, [], ◌∷◌, ◌++◌, map, append-nil}
use native.Mathlib.Nat.{add-zero, zero-add}
use native.Mathlib.Omega.{arith}
use lib.ListN.{length, drop, get_or-replicate}
use lib.Dec.{eqb}
use borrow.Author.Tests.{ne_eqb, eqb-true, eqb-false}
use Rattle.sizes.specs.declared.Opening.{Opening}
use Rattle.session_rules.specs.declared.Reading.{Reading}
use Rattle.session_rules.specs.declared.Reading.TheVariants.{Idle, Unreadable, Readable}
use Rattle.session_rules.specs.Transfer.{reading_of}
use Rattle.session_rules.specs.declared.Reason.{Reason}
use Rattle.session_rules.specs.declared.Phase.{Phase}
use Rattle.session_rules.specs.declared.Phase.TheVariants.{Fresh, Under, Past}
use Rattle.session_rules.specs.declared.Fate.{Fate}
use Rattle.session_rules.specs.declared.Turn.{Turn}
use Rattle.session_rules.specs.declared.HandOut.{HandOut}
use Rattle.session_rules.specs.Track.{under_count, under_bytes, handing}
use Rattle.session_rules.specs.declared.Ledger.{Ledger}
use Rattle.session_rules.specs.Entry.{Entry}
use Rattle.session_rules.specs.Ledger.{no_ledger}
use Rattle.session_rules.specs.declared.Session.{Session}
use Rattle.session_rules.specs.Refusals.{posted_of, ledger_of}
use Rattle.session_rules.specs.Session.{fresh}
use Rattle.books.specs.Rule.{Event, idle, unreadable, missing, readable, mark, events, Item, entry_of, frames_by, loose, entries, lost_line, idle_line, one_in, part_in, total, stamps, last_stamped, untimed, forward, back, between}
use Rattle.books.specs.Demands.{Right, ended_items, fate_items}
use Rattle.books.proofs.Made.{base, turn_items}
use Rattle.books.proofs.Posts.{posts-sized, since, stamp_in, gain, place-law, step-law, count-gain, bytes-gain, single-gain, total-append, last-law}
use Rattle.books.proofs.Taken.{Proper}
use Rattle.books.proofs.History.{items_by, call_items, data_next, items, data_run, afoot, items-right, posted, run-posts, posted-total, posted-stamps, map-append, stamps-append}
use Rattle.session_rules.specs.Accounts.{account_count, number_count, under_at, account_for, place_of, count_at, bytes_at, lost_at, idle_at, ticks_at, backward_at, untimed_at}
use Rattle.session_rules.proofs.Places.{at, Sized, place-lt, shown-other, shown-single, shown-count, shown-bytes, not-under-way}
use Rattle.session_rules.specs.Turns.{turn_of, out_by, closed_of}
use Rattle.session_rules.specs.Call.{Call}
use Rattle.session_rules.specs.Calls.{next_call, run}

-- ---- a measure that is nothing but of a frame under way
abbrev Settled : Entry → Type 0
Settled (Entry.Delivered d) = Unit {0}
Settled (Entry.Still d) = Unit {0}
Settled (Entry.Dropped w n) = Unit {0}
Settled (Entry.UnderWay n) = ⊥
Settled (Entry.Stray n) = Unit {0}
Settled (Entry.Unreadable n) = Unit {0}
Settled (Entry.Headers n) = Unit {0}
Settled Entry.Lost = Unit {0}
Settled Entry.Idle = Unit {0}

module _ (m : Entry → ℕ) (none : (e : Entry) → Settled e → m e ≡ 0) where
  ended-none : (e : Ended) (g : ℕ) (D : List ℕ) → total m (map entry_of (ended_items e g D)) ≡ 0
  ended-none None g D = refl
  ended-none (Some w) g D = rw (none (Entry.Dropped w g) tt)

  fate-none : (f : Fate) (n : ℕ) (D : List ℕ) → total m (map entry_of (fate_items f n D)) ≡ 0
  fate-none Fate.Idle n D = refl
  fate-none Fate.Kept n D = refl
  fate-none Fate.Stray n D = rw (none (Entry.Stray n) tt)
  fate-none (Fate.Delivered d) n D = rw (none (Entry.Delivered d) tt)
  fate-none (Fate.Still d) n D = rw (none (Entry.Still d) tt)
  fate-none (Fate.Dropped w) n D = rw (none (Entry.Dropped w n) tt)
  fate-none (Fate.Unreadable k) n D = refl

  both-none : (xs ys : List Item) → total m (map entry_of xs) ≡ 0 → total m (map entry_of ys) ≡ 0 → total m (map entry_of (xs ++ ys)) ≡ 0
  both-none xs ys a b = ap (total m) (map-append xs ys) ∙ total-append m (map entry_of xs) (map entry_of ys) ∙ omega (arith, a, b)

  turn-none : (t : Turn) (D E : List ℕ) → total m (map entry_of (turn_items t D E)) ≡ 0
  turn-none t D E =
      both-none (ended_items t.answer.ended t.gone D) (fate_items t.answer.fate t.bytes E) (ended-none t.answer.ended t.gone D) (fate-none t.answer.fate t.bytes E)

  call_none : (s : Session) (D : List ℕ) (c : Call) → total m (map entry_of (call_items s D c)) ≡ 0
  call_none s D (Call.transfer t) = go (reading_of s.rest.opening t)
    where
      go : (r : Reading) → total m (map entry_of (items_by r s D t)) ≡ 0
      go Idle = refl
      go (Unreadable k) = refl
      go (Readable h) = turn-none (turn_of s.rest.opening s.rest.track h (length t - h.len)) D (base s.rest.track.phase h.fid D ++ drop h.len t)
  call_none s D Call.lost = refl
  call_none s D Call.handed =
      let x : HandOut = (out_by s.rest.track.phase false).frame in
      fate-none (handing x.still x.delivery) x.delivery.len D
  call_none s D Call.close = ended-none (closed_of s.rest.track).ended (closed_of s.rest.track).gone D

  items-none : (cs : List Call) (s : Session) (D : List ℕ) → total m (map entry_of (items s D cs)) ≡ 0
  items-none [] s D = refl
  items-none (c ∷ cs) s D = both-none (call_items s D c) (items (next_call s c) (data_next s D c) cs) (call_none s D c) (items-none cs (next_call s c) (data_next s D c))

  loose_none : (es : List Event) → total m (loose es) ≡ 0
  loose_none [] = refl
  loose_none (idle ∷ es) = rw (none Entry.Idle tt) (zero-add _ ∙ loose_none es)
  loose_none (unreadable n ∷ es) = rw (none (Entry.Unreadable n) tt) (zero-add _ ∙ loose_none es)
  loose_none (missing ∷ es) = rw (none Entry.Lost tt) (zero-add _ ∙ loose_none es)
  loose_none (readable h d ∷ es) = rw (none (Entry.Headers h.len) tt) (zero-add _ ∙ loose_none es)
  loose_none (mark ∷ es) = loose_none es

-- ---- the rule's entries are those that were posted, and the frame under way
module _ (o : Opening) (cs : List Call) (p : Proper (fresh o) cs) where
  abbrev end : Session
  end = run (fresh o) cs

  abbrev made : List Item
  made = items (fresh o) [] cs

  abbrev way : List Item
  way = afoot end.rest.track.phase (data_run (fresh o) [] cs)

  pub frames-made : frames_by o cs ≡ made ++ way
  frames-made = items-right cs (fresh o) [] p tt

  entries-total : (m : Entry → ℕ) → total m (entries o cs) ≡ total m (map entry_of made) + total m (map entry_of way) + total m (loose (events o cs))
  entries-total m =
      total-append m (map entry_of (frames_by o cs)) (loose (events o cs))
      ∙ ap (◌+ total m (loose (events o cs))) (ap (λ (x : List Item). total m (map entry_of x)) frames-made ∙ ap (total m) (map-append made way) ∙ total-append m (map entry_of made) (map entry_of way))

  pub end-sized : Sized (posted_of end)
  end-sized = subst Sized (sym (run-posts cs (fresh o) [])) (posts-sized no_ledger (posted (fresh o) [] cs) refl)

  -- a place where each entry gains by itself
  place_end : (q : ℕ) (m : Entry → ℕ) → q < number_count → ((a : Stamp) (e : Entry) → gain q a e ≡ m e) → at q (posted_of end) ≡ total m (map entry_of made) + total m (loose (events o cs))
  place_end q m h g =
      ap (at q) (run-posts cs (fresh o) [])
      ∙ place-law q m g no_ledger (posted (fresh o) [] cs) refl
      ∙ ap (◌+ total m (posted (fresh o) [] cs)) (get_or-replicate number_count q 0 0 h)
      ∙ zero-add _
      ∙ posted-total m o cs (fresh o) [] refl p

  -- the accounts but that of the frame under way
  shown-place : (q : ℕ) (m : Entry → ℕ) → q < number_count → (q ≡ count_at under_at → ⊥) → (q ≡ bytes_at under_at → ⊥) → ((a : Stamp) (e : Entry) → gain q a e ≡ m e) → ((n : ℕ) → m (Entry.UnderWay n) ≡ 0)
      → at q (ledger_of end) ≡ total m (entries o cs)
  shown-place q m h a b g z =
      shown-other (posted_of end) end.rest.track.phase q a b
      ∙ place_end q m h g
      ∙ sym (entries-total m ∙ ap (λ (x : ℕ). total m (map entry_of made) + x + total m (loose (events o cs))) (none end.rest.track.phase (data_run (fresh o) [] cs)) ∙ ap (◌+ total m (loose (events o cs))) (add-zero _))
    where
      none : (ph : Phase) (D : List ℕ) → total m (map entry_of (afoot ph D)) ≡ 0
      none Fresh D = refl
      none (Past f) D = refl
      none (Under x) D = rw (z x.bytes)

  -- the account of the frame under way
  shown-way : (m : Entry → ℕ) (n : ℕ) → ((e : Entry) → Settled e → m e ≡ 0) → total m (map entry_of way) ≡ n → n ≡ total m (entries o cs)
  shown-way m n z e = sym (entries-total m ∙ omega (arith, items-none m z cs (fresh o) [], loose_none m z (events o cs), e))

  counts-way : (ph : Phase) (D : List ℕ) → total (one_in under_at) (map entry_of (afoot ph D)) ≡ under_count ph
  counts-way Fresh D = refl
  counts-way (Past f) D = refl
  counts-way (Under x) D = refl

  bytes-way : (ph : Phase) (D : List ℕ) → total (part_in under_at) (map entry_of (afoot ph D)) ≡ under_bytes ph
  bytes-way Fresh D = refl
  bytes-way (Past f) D = refl
  bytes-way (Under x) D = add-zero _

one-settled : (e : Entry) → Settled e → one_in under_at e ≡ 0
one-settled (Entry.Delivered d) h = refl
one-settled (Entry.Still d) h = refl
one-settled (Entry.Dropped w n) h = rw (ne_eqb (place_of (account_for w)) under_at (not-under-way w))
one-settled (Entry.UnderWay n) h = absurd h
one-settled (Entry.Stray n) h = refl
one-settled (Entry.Unreadable n) h = refl
one-settled (Entry.Headers n) h = refl
one-settled Entry.Lost h = refl
one-settled Entry.Idle h = refl

part-settled : (e : Entry) → Settled e → part_in under_at e ≡ 0
part-settled (Entry.Delivered d) h = refl
part-settled (Entry.Still d) h = refl
part-settled (Entry.Dropped w n) h = rw (ne_eqb (place_of (account_for w)) under_at (not-under-way w))
part-settled (Entry.UnderWay n) h = absurd h
part-settled (Entry.Stray n) h = refl
part-settled (Entry.Unreadable n) h = refl
part-settled (Entry.Headers n) h = refl
part-settled Entry.Lost h = refl
part-settled Entry.Idle h = refl

-- the account with the place k
module _ (o : Opening) (cs : List Call) (p : Proper (fresh o) cs) (k : ℕ) (h : k < account_count) where
  pub count-right : at (count_at k) (ledger_of (end o cs p)) ≡ total (one_in k) (entries o cs)
  count-right = go (eqb under_at k) refl
    where
      go : (b : Bool) → eqb under_at k ≡ b → at (count_at k) (ledger_of (end o cs p)) ≡ total (one_in k) (entries o cs)
      go true q =
          rw (← eqb-true under_at k q) (shown-count (posted_of (end o cs p)) (end o cs p).rest.track.phase (end-sized o cs p)
          ∙ shown-way o cs p (one_in under_at) _ one-settled (counts-way o cs p (end o cs p).rest.track.phase (data_run (fresh o) [] cs)))
      go false q =
          shown-place o cs p (count_at k) (one_in k) (omega arith) (λ z. eqb-false under_at k q (omega arith)) (λ z. omega arith) (count-gain k h) (λ n. rw q)

  pub bytes-right : at (bytes_at k) (ledger_of (end o cs p)) ≡ total (part_in k) (entries o cs)
  bytes-right = go (eqb under_at k) refl
    where
      go : (b : Bool) → eqb under_at k ≡ b → at (bytes_at k) (ledger_of (end o cs p)) ≡ total (part_in k) (entries o cs)
      go true q =
          rw (← eqb-true under_at k q) (shown-bytes (posted_of (end o cs p)) (end o cs p).rest.track.phase (end-sized o cs p)
          ∙ shown-way o cs p (part_in under_at) _ part-settled (bytes-way o cs p (end o cs p).rest.track.phase (data_run (fresh o) [] cs)))
      go false q =
          shown-place o cs p (bytes_at k) (part_in k) (omega arith) (λ z. omega arith) (λ z. eqb-false under_at k q (omega arith)) (bytes-gain k h) (λ n. rw q)

-- ---- the other counts
past-line : (k : ℕ) → account_count ≤ k → (w : Reason) (n : ℕ) → 0 ≡ one_in k (Entry.Dropped w n)
past-line k h w n = sym (rw (ne_eqb (place_of (account_for w)) k (λ z. omega (arith, place-lt (account_for w)))))

lost-gain : (a : Stamp) (e : Entry) → gain lost_at a e ≡ one_in lost_line e
lost-gain = single-gain lost_at (omega arith) (λ a e. one_in lost_line e) (λ a d. refl) (λ a d. refl) (λ a w n. past-line lost_line (omega arith) w n) (λ a n. refl) (λ a n. refl) (λ a n. refl) (λ a n. refl) (λ a. refl) (λ a. refl)

idle-gain : (a : Stamp) (e : Entry) → gain idle_at a e ≡ one_in idle_line e
idle-gain = single-gain idle_at (omega arith) (λ a e. one_in idle_line e) (λ a d. refl) (λ a d. refl) (λ a w n. past-line idle_line (omega arith) w n) (λ a n. refl) (λ a n. refl) (λ a n. refl) (λ a n. refl) (λ a. refl) (λ a. refl)

untimed-gain : (a : Stamp) (e : Entry) → gain untimed_at a e ≡ untimed e
untimed-gain = single-gain untimed_at (omega arith) (λ a e. untimed e) (λ a d. zero-add _ ∙ zero-add _) (λ a d. refl) (λ a w n. refl) (λ a n. refl) (λ a n. refl) (λ a n. refl) (λ a n. refl) (λ a. refl) (λ a. refl)

ticks-gain : (a : Stamp) (e : Entry) → gain ticks_at a e ≡ since forward a (stamp_in e)
ticks-gain = single-gain ticks_at (omega arith) (λ a e. since forward a (stamp_in e)) (λ a d. add-zero _) (λ a d. refl) (λ a w n. refl) (λ a n. refl) (λ a n. refl) (λ a n. refl) (λ a n. refl) (λ a. refl) (λ a. refl)

backward-gain : (a : Stamp) (e : Entry) → gain backward_at a e ≡ since back a (stamp_in e)
backward-gain = single-gain backward_at (omega arith) (λ a e. since back a (stamp_in e)) (λ a d. zero-add _ ∙ add-zero _) (λ a d. refl) (λ a w n. refl) (λ a n. refl) (λ a n. refl) (λ a n. refl) (λ a n. refl) (λ a. refl) (λ a. refl)

pub loose-stamped : (es : List Event) → stamps (loose es) ≡ []
loose-stamped [] = refl
loose-stamped (idle ∷ es) = loose-stamped es
loose-stamped (unreadable n ∷ es) = loose-stamped es
loose-stamped (missing ∷ es) = loose-stamped es
loose-stamped (readable h d ∷ es) = loose-stamped es
loose-stamped (mark ∷ es) = loose-stamped es

-- what has no frame is not untimed either
pub loose-timed : (es : List Event) → total untimed (loose es) ≡ 0
loose-timed [] = refl
loose-timed (idle ∷ es) = zero-add _ ∙ loose-timed es
loose-timed (unreadable n ∷ es) = zero-add _ ∙ loose-timed es
loose-timed (missing ∷ es) = zero-add _ ∙ loose-timed es
loose-timed (readable h d ∷ es) = zero-add _ ∙ loose-timed es
loose-timed (mark ∷ es) = loose-timed es

afoot-stamped : (ph : Phase) (D : List ℕ) → stamps (map entry_of (afoot ph D)) ≡ []
afoot-stamped Fresh D = refl
afoot-stamped (Past f) D = refl
afoot-stamped (Under x) D = refl

module _ (o : Opening) (cs : List Call) (p : Proper (fresh o) cs) where
  entries-stamps : stamps (entries o cs) ≡ stamps (map entry_of (made o cs p))
  entries-stamps =
      stamps-append (map entry_of (frames_by o cs)) (loose (events o cs))
      ∙ ap (stamps (map entry_of (frames_by o cs)) ++◌) (loose-stamped (events o cs))
      ∙ append-nil _
      ∙ ap (λ (x : List Item). stamps (map entry_of x)) (frames-made o cs p)
      ∙ ap stamps (map-append (made o cs p) (way o cs p))
      ∙ stamps-append (map entry_of (made o cs p)) (map entry_of (way o cs p))
      ∙ ap (stamps (map entry_of (made o cs p)) ++◌) (afoot-stamped (end o cs p).rest.track.phase (data_run (fresh o) [] cs))
      ∙ append-nil _

  step_right : (q : ℕ) (f : ℕ → ℕ → ℕ) → q < number_count → lost_at ≤ q → ((a : Stamp) (e : Entry) → gain q a e ≡ since f a (stamp_in e)) → at q (ledger_of (end o cs p)) ≡ between f (stamps (entries o cs))
  step_right q f h u g =
      shown-single (posted_of (end o cs p)) (end o cs p).rest.track.phase q u
      ∙ ap (at q) (run-posts cs (fresh o) [])
      ∙ step-law q f g no_ledger (posted (fresh o) [] cs) refl
      ∙ ap (◌+ between f (stamps (posted (fresh o) [] cs))) (get_or-replicate number_count q 0 0 h)
      ∙ zero-add _
      ∙ ap (between f) (posted-stamps cs (fresh o) [] ∙ sym entries-stamps)

  -- the last stamp is kept beside the numbers
  pub last-kept : (end o cs p).rest.last ≡ last_stamped (stamps (entries o cs))
  last-kept =
      ap (λ (l : Ledger). l.last) (run-posts cs (fresh o) [])
      ∙ last-law no_ledger (posted (fresh o) [] cs)
      ∙ ap last_stamped (posted-stamps cs (fresh o) [] ∙ sym entries-stamps)

  -- every number is the rule's
  pub all_right : Right o cs (ledger_of (end o cs p))
  all_right = record {
    counts = λ a. count-right o cs p (place_of a) (place-lt a);
    bytes = λ a. bytes-right o cs p (place_of a) (place-lt a);
    losses = shown-place o cs p lost_at (one_in lost_line) (omega arith) (λ z. omega arith) (λ z. omega arith) lost-gain (λ n. refl);
    idles = shown-place o cs p idle_at (one_in idle_line) (omega arith) (λ z. omega arith) (λ z. omega arith) idle-gain (λ n. refl);
    ticks = step_right ticks_at forward (omega arith) (omega arith) ticks-gain;
    backward = step_right backward_at back (omega arith) (omega arith) backward-gain;
    plain = shown-place o cs p untimed_at untimed (omega arith) (λ z. omega arith) (λ z. omega arith) untimed-gain (λ n. refl);
  }
