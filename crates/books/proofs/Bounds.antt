-- The bounds of each number, from the rule: none is above what rule 50 allows.
use Rattle.std.specs.Prelude.{None, Some}
use Rattle.session_rules.specs.Options.{Fault, Layer, Stamp}
use Prim.Native.Nat.{ℕ, suc, ◌+◌, ◌*◌, ◌^◌, ◌≤◌, ◌<◌}
use mathlib.Core.Path.{◌≡◌, refl, ◌∙◌, ap}
use mathlib.Core.Bool.{Bool, true, false, cond, ◌&&◌}
use mathlib.Core.List.{List, [], ◌∷◌, map, append-nil, ◌++◌}
use mathlib.Core.Logic.{⊎_elim}
use native.Mathlib.Omega.{arith}
use native.Mathlib.Nat.{le_trans, zero-add}
use lib.Dec.{T, eqb, ltb, ltb→lt}
use lib.ListN.{length, length-append, length-map}
use borrow.Author.Tests.{ne_eqb}
use Rattle.rules.proofs.Firsts.{lt-or-ge}
use Rattle.sizes.specs.declared.Opening.{Opening}
use Rattle.session_rules.specs.declared.Reason.{Reason}
use Rattle.session_rules.specs.declared.Reason.TheVariants.{Gap, Error, Clock, Mixed, Long, Cut, Empty}
use Rattle.session_rules.specs.declared.Account.{Account}
use Rattle.session_rules.specs.Accounts.{place_of, account_for}
use Rattle.session_rules.specs.Entry.{Entry}
use Rattle.books.specs.Rule.{Event, idle, unreadable, missing, readable, mark, events, is_open, Seen, readables, runs, closes, frame_of, stray_of, complete, data_of, first_stamp, last_layer, still_of, fault, Item, handed_out, verdict, strays, judge, nothing, judged, frames_of, frames_by, loose, entry_of, entries, line_of, bytes_in, one_in, part_in, total, stamp_list, stamps_of, stamps, no_stamp, untimed, step, forward, back, between, received}
use Rattle.books.proofs.Runs.{runs-concat, runs-longest}
use Rattle.books.proofs.Posts.{total-append}
use Rattle.books.proofs.History.{map-append, stamps-append}
use Rattle.books.proofs.Accounts.{loose-stamped}
use Rattle.books.proofs.Received.{entries-bytes}
use Rattle.session_rules.specs.Call.{Call}
use Rattle.books.specs.Longest.{concat, Longest}

total-le : (m l : Entry → ℕ) (xs : List Entry) → ((x : Entry) → m x ≤ l x) → total m xs ≤ total l xs
total-le m l [] h = omega arith
total-le m l (x ∷ xs) h = omega (arith, h x, total-le m l xs h)

total-one : (xs : List Entry) → total (λ x. 1) xs ≡ length xs
total-one [] = refl
total-one (x ∷ xs) = omega (arith, total-one xs)

one-le : (k : ℕ) (x : Entry) → one_in k x ≤ 1
one-le k x = go (eqb (line_of x) k)
  where
    go : (b : Bool) → cond b 1 0 ≤ 1
    go true = omega arith
    go false = omega arith

part-le : (k : ℕ) (x : Entry) → part_in k x ≤ bytes_in x
part-le k x = go (eqb (line_of x) k)
  where
    go : (b : Bool) → cond b (bytes_in x) 0 ≤ bytes_in x
    go true = omega arith
    go false = omega arith

none-le : (s : Stamp) → no_stamp s ≤ 1
none-le None = omega arith
none-le (Some x) = omega arith

untimed-le : (x : Entry) → untimed x ≤ 1
untimed-le (Entry.Delivered d) = none-le d.stamp
untimed-le (Entry.Still d) = omega arith
untimed-le (Entry.Dropped w n) = omega arith
untimed-le (Entry.UnderWay n) = omega arith
untimed-le (Entry.Stray n) = omega arith
untimed-le (Entry.Unreadable n) = omega arith
untimed-le (Entry.Headers n) = omega arith
untimed-le Entry.Lost = omega arith
untimed-le Entry.Idle = omega arith

-- ---- a readable transfer makes at most one item
strays-length : (ts : List Seen) → length (strays ts) ≡ length ts
strays-length [] = refl
strays-length (t ∷ ts) = ap suc (strays-length ts)

stray-le : (o : Opening) (ts : List Seen) → length (stray_of o ts) ≤ length ts
stray-le o [] = omega arith
stray-le o (t ∷ ts) = go (closes o t) (stray-le o ts)
  where
    go : (b : Bool) → length (stray_of o ts) ≤ length ts → length (cond b ts (stray_of o ts)) ≤ suc (length ts)
    go true h = omega arith
    go false h = omega arith

stray-lt : (o : Opening) (t : Seen) (ts : List Seen) → length (stray_of o (t ∷ ts)) ≤ length ts
stray-lt o t ts = go (closes o t) (stray-le o ts)
  where
    go : (b : Bool) → length (stray_of o ts) ≤ length ts → length (cond b ts (stray_of o ts)) ≤ length ts
    go true h = omega arith
    go false h = h

judged-length : (o : Opening) (p : Bool) (rs : List (List Seen)) → Longest rs → length (judged o p rs) ≤ length (concat rs)
judged-length o p [] h = omega arith
judged-length o p ([] ∷ rs) h = absurd h
judged-length o p ((t ∷ ts) ∷ rs) h =
    omega (arith, judged-length o p rs h.2, stray-lt o t ts, strays-length (stray_of o (t ∷ ts)), length-append ts (concat rs), length-append (judge o p (nothing rs) (t ∷ ts)) (judged o p rs))

readable-length : (b : Bool) (es : List Event) → length (readables b es) ≤ length (loose es)
readable-length b [] = omega arith
readable-length b (idle ∷ es) = omega (arith, readable-length b es)
readable-length b (unreadable n ∷ es) = omega (arith, readable-length true es)
readable-length b (missing ∷ es) = omega (arith, readable-length true es)
readable-length b (readable h d ∷ es) = omega (arith, readable-length false es)
readable-length b (mark ∷ es) = readable-length b es

frames-length : (o : Opening) (p : Bool) (es : List Event) → length (frames_of o p es) ≤ length (loose es)
frames-length o p es = le_trans (judged-length o p (runs (readables false es)) (runs-longest (readables false es))) (rw runs-concat (readable-length false es))

-- ---- a frame's line is below the first of a loose entry
abbrev loose_line : ℕ
loose_line = place_of Account.Unreadable

line_low : (w : Reason) → place_of (account_for w) < loose_line
line_low Gap = omega arith
line_low Error = omega arith
line_low Clock = omega arith
line_low Mixed = omega arith
line_low Long = omega arith
line_low Cut = omega arith
line_low Empty = omega arith

verdict-low : (w c : Bool) (q : Fault) (s : Stamp) (y : Layer) (b : Bool) (n : ℕ) → line_of (verdict w c q s y b n) < loose_line
verdict-low w true (Some k) s y b n = line_low k
verdict-low w true None s y b n = go (eqb n 0) b
  where
    go : (c b : Bool) → line_of (cond c (Entry.Dropped Empty n) (handed_out b (record { len = n; stamp = s; layer = y }))) < loose_line
    go true b = omega arith
    go false true = omega arith
    go false false = omega arith
verdict-low true false q s y b n = omega arith
verdict-low false false (Some k) s y b n = line_low k
verdict-low false false None s y b n = omega arith

one_none : (k : ℕ) (e : Entry) → (line_of e ≡ k → ⊥) → one_in k e ≡ 0
one_none k e h = rw (ne_eqb (line_of e) k h)

module _ (k : ℕ) where
  abbrev in_items : List Item → ℕ
  in_items xs = total (one_in k) (map entry_of xs)

  strays-none : loose_line ≤ k → (ts : List Seen) → in_items (strays ts) ≡ 0
  strays-none h [] = refl
  strays-none h (t ∷ ts) = rw (one_none k (Entry.Stray (length t.load)) (λ z. omega arith)) (zero-add _ ∙ strays-none h ts)

  judged-none : loose_line ≤ k → (o : Opening) (p : Bool) (rs : List (List Seen)) → in_items (judged o p rs) ≡ 0
  judged-none h o p [] = refl
  judged-none h o p (r ∷ rs) =
      let f : List Seen = frame_of o r in
      let v : Entry = verdict (p && nothing rs) (complete o (nothing rs) f) (fault o f) (first_stamp f) (last_layer f) (still_of f) (length (data_of f)) in
      let l = verdict-low (p && nothing rs) (complete o (nothing rs) f) (fault o f) (first_stamp f) (last_layer f) (still_of f) (length (data_of f)) in
      ap (total (one_in k)) (map-append (judge o p (nothing rs) r) (judged o p rs))
      ∙ total-append (one_in k) (map entry_of (judge o p (nothing rs) r)) (map entry_of (judged o p rs))
      ∙ omega (arith, one_none k v (λ z. omega arith), strays-none h (stray_of o r), judged-none h o p rs)

  loose-low : k < loose_line → (es : List Event) → total (one_in k) (loose es) ≡ 0
  loose-low h [] = refl
  loose-low h (idle ∷ es) = rw (one_none k Entry.Idle (λ z. omega arith)) (zero-add _ ∙ loose-low h es)
  loose-low h (unreadable n ∷ es) = rw (one_none k (Entry.Unreadable n) (λ z. omega arith)) (zero-add _ ∙ loose-low h es)
  loose-low h (missing ∷ es) = rw (one_none k Entry.Lost (λ z. omega arith)) (zero-add _ ∙ loose-low h es)
  loose-low h (readable g d ∷ es) = rw (one_none k (Entry.Headers g.len) (λ z. omega arith)) (zero-add _ ∙ loose-low h es)
  loose-low h (mark ∷ es) = loose-low h es

-- ---- the bounds, by the transfers taken: each has one loose entry, and a mark has none
module _ (o : Opening) (cs : List Call) where
  abbrev pub heard : ℕ
  heard = length (loose (events o cs))

  split : (m : Entry → ℕ) → total m (entries o cs) ≡ total m (map entry_of (frames_by o cs)) + total m (loose (events o cs))
  split m = total-append m (map entry_of (frames_by o cs)) (loose (events o cs))

  in-frames : (m : Entry → ℕ) → ((x : Entry) → m x ≤ 1) → total m (map entry_of (frames_by o cs)) ≤ heard
  in-frames m h =
      omega (arith, total-le m (λ x. 1) (map entry_of (frames_by o cs)) h, total-one (map entry_of (frames_by o cs)), length-map (frames_by o cs) entry_of, frames-length o (is_open cs) (events o cs))

  in-loose : (m : Entry → ℕ) → ((x : Entry) → m x ≤ 1) → total m (loose (events o cs)) ≤ heard
  in-loose m h = omega (arith, total-le m (λ x. 1) (loose (events o cs)) h, total-one (loose (events o cs)))

  pub count-bound : (k : ℕ) → total (one_in k) (entries o cs) ≤ heard
  count-bound k =
      ⊎_elim (λ h. omega (arith, split (one_in k), loose-low k h (events o cs), in-frames (one_in k) (one-le k)))
      (λ h. omega (arith, split (one_in k), judged-none k (omega arith) o (is_open cs) (runs (readables false (events o cs))), in-loose (one_in k) (one-le k)))
      (lt-or-ge k loose_line)

  loose-timed : (es : List Event) → total untimed (loose es) ≡ 0
  loose-timed [] = refl
  loose-timed (idle ∷ es) = zero-add _ ∙ loose-timed es
  loose-timed (unreadable n ∷ es) = zero-add _ ∙ loose-timed es
  loose-timed (missing ∷ es) = zero-add _ ∙ loose-timed es
  loose-timed (readable h d ∷ es) = zero-add _ ∙ loose-timed es
  loose-timed (mark ∷ es) = loose-timed es

  pub untimed-bound : total untimed (entries o cs) ≤ heard
  untimed-bound = omega (arith, split untimed, loose-timed (events o cs), in-frames untimed untimed-le)

  -- no transfer taken is over 65,536 bytes (55)
  pub bytes-bound : (k : ℕ) → received cs ≤ 65536 * heard → total (part_in k) (entries o cs) ≤ 65536 * heard
  bytes-bound k h = omega (arith, total-le (part_in k) bytes_in (entries o cs) (part-le k), entries-bytes o cs)

forward-le : (a b : ℕ) → forward a b ≤ 2 ^ 31
forward-le a b = go (ltb (step a b) (2 ^ 31)) (λ h. ltb→lt (step a b) (2 ^ 31) h)
  where
    go : (x : Bool) → (T x → step a b < 2 ^ 31) → cond x (step a b) 0 ≤ 2 ^ 31
    go true h = omega (arith, h tt)
    go false h = omega arith

back-le : (a b : ℕ) → back a b ≤ 1
back-le a b = go (ltb (step a b) (2 ^ 31))
  where
    go : (x : Bool) → cond x 0 1 ≤ 1
    go true = omega arith
    go false = omega arith

between_le : (f : ℕ → ℕ → ℕ) (m : ℕ) → ((a b : ℕ) → f a b ≤ m) → (l : List ℕ) → between f l ≤ m * length l
between_le f m h [] = omega arith
between_le f m h (a ∷ []) = omega arith
between_le f m h (a ∷ b ∷ bs) = omega (arith, h a b, between_le f m h (b ∷ bs))

list-le : (s : Stamp) → length (stamp_list s) ≤ 1
list-le None = omega arith
list-le (Some x) = omega arith

stamps-le : (x : Entry) → length (stamps_of x) ≤ 1
stamps-le (Entry.Delivered d) = list-le d.stamp
stamps-le (Entry.Still d) = omega arith
stamps-le (Entry.Dropped w n) = omega arith
stamps-le (Entry.UnderWay n) = omega arith
stamps-le (Entry.Stray n) = omega arith
stamps-le (Entry.Unreadable n) = omega arith
stamps-le (Entry.Headers n) = omega arith
stamps-le Entry.Lost = omega arith
stamps-le Entry.Idle = omega arith

stamps-length : (xs : List Entry) → length (stamps xs) ≤ length xs
stamps-length [] = omega arith
stamps-length (x ∷ xs) = omega (arith, length-append (stamps_of x) (stamps xs), stamps-le x, stamps-length xs)

module _ (o : Opening) (cs : List Call) where
  framed : stamps (entries o cs) ≡ stamps (map entry_of (frames_by o cs))
  framed = stamps-append (map entry_of (frames_by o cs)) (loose (events o cs)) ∙ ap (stamps (map entry_of (frames_by o cs)) ++◌) (loose-stamped (events o cs)) ∙ append-nil _

  stamped : length (stamps (entries o cs)) ≤ heard o cs
  stamped =
      rw framed (omega (arith, stamps-length (map entry_of (frames_by o cs)), length-map (frames_by o cs) entry_of, frames-length o (is_open cs) (events o cs)))

  pub ticks-bound : between forward (stamps (entries o cs)) ≤ 2 ^ 31 * heard o cs
  ticks-bound = omega (arith, between_le forward (2 ^ 31) forward-le (stamps (entries o cs)), stamped)

  pub backward-bound : between back (stamps (entries o cs)) ≤ heard o cs
  backward-bound = omega (arith, between_le back 1 back-le (stamps (entries o cs)), stamped)
