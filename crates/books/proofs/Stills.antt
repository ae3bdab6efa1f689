-- Where no readable transfer has the still bit, no frame is a still or mixed, and both accounts are zero.
use Rattle.std.specs.Prelude.{None, Some}
use Rattle.session_rules.specs.Options.{Fault, Layer, Stamp}
use Prim.Native.Nat.{ℕ, ◌+◌}
use mathlib.Core.Path.{◌≡◌, refl, sym, ◌∙◌, ap}
use mathlib.Core.Bool.{Bool, true, false, cond, true≢false}
use mathlib.Core.List.{List, [], ◌∷◌, map}
use native.Mathlib.Omega.{arith}
use native.Mathlib.Nat.{zero-add}
use lib.ListN.{length}
use lib.Dec.{eqb, ltb}
use borrow.Author.Tests.{ne_eqb}
use Rattle.sizes.specs.declared.Opening.{Opening}
use Rattle.session_rules.specs.declared.Header.{Header}
use Rattle.session_rules.specs.declared.Reason.{Reason}
use Rattle.session_rules.specs.declared.Reason.TheVariants.{Gap, Error, Clock, Mixed, Long, Cut, Empty}
use Rattle.session_rules.specs.declared.Account.{Account}
use Rattle.session_rules.specs.declared.Ledger.{Ledger}
use Rattle.session_rules.specs.Accounts.{place_of, account_for}
use Rattle.session_rules.specs.Entry.{Entry}
use Rattle.session_rules.specs.Call.{Call}
use Rattle.books.specs.Rule.{Event, idle, unreadable, missing, readable, mark, events, Seen, data_of, first_stamp, last_layer, still_of, ◌or◌, when, differs, fault_at, gap_after, fault_from, gap_before, fault, verdict, loose, entry_of, frames_by, entries, line_of, one_in, part_in, total}
use Rattle.books.specs.Demands.{Right, EachEntry, FilmHeader, Film, NoStill, WithoutStills}
use Rattle.books.proofs.Each.{each_append, EachSeen, frames-each}

-- ---- a frame of which no transfer has it
abbrev Clear : List Seen → Type 0
Clear r = EachSeen FilmHeader r

pub still-clear : (r : List Seen) → Clear r → still_of r ≡ false
still-clear [] c = refl
still-clear (t ∷ ts) c = c.0

-- ---- so its frame is not mixed
abbrev NotMixed : Fault → Type 0
NotMixed None = Unit {0}
NotMixed (Some w) = w ≡ Mixed → ⊥

or-not : (p q : Fault) → NotMixed p → NotMixed q → NotMixed (p or q)
or-not None q a b = b
or-not (Some w) q a b = a

-- the other reasons
abbrev is_mixed : Reason → Bool
is_mixed Gap = false
is_mixed Error = false
is_mixed Clock = false
is_mixed Mixed = true
is_mixed Long = false
is_mixed Cut = false
is_mixed Empty = false

other : (w : Reason) → is_mixed w ≡ false → w ≡ Mixed → ⊥
other w e q = true≢false (sym (ap is_mixed q) ∙ e)

when-not : (b : Bool) (w : Reason) → is_mixed w ≡ false → NotMixed (when b w)
when-not true w h = other w h
when-not false w h = tt

module _ (o : Opening) (s : Stamp) where
  at-not : (n : ℕ) (h : Header) (d : ℕ) → h.still ≡ false → NotMixed (fault_at o s false n h d)
  at-not n h d e =
      or-not (when h.error Error) _ (when-not h.error Error refl)
      (or-not (when (differs s h.stamp) Clock) _ (when-not (differs s h.stamp) Clock refl)
      (rw e (when-not (ltb o.frame (n + d)) Long refl)))

  from-not : (n : ℕ) (ts : List Seen) → Clear ts → NotMixed (fault_from o s false n ts)
  from-not n [] c = tt
  from-not n (t ∷ ts) c =
      or-not (fault_at o s false n t.header (length t.load)) _ (at-not n t.header (length t.load) c.0)
      (or-not (when (gap_after o t) Gap) _ (when-not (gap_after o t) Gap refl) (from-not (n + length t.load) ts c.1))

fault-not : (o : Opening) (r : List Seen) → Clear r → NotMixed (fault o r)
fault-not o r c = or-not (when (gap_before r) Gap) _ (when-not (gap_before r) Gap refl) (rw (still-clear r c) (from-not o (first_stamp r) 0 r c))

-- ---- and no still
verdict-film : (w c : Bool) (q : Fault) (s : Stamp) (y : Layer) (b : Bool) (n : ℕ) → NotMixed q → b ≡ false → NoStill (verdict w c q s y b n)
verdict-film w true (Some k) s y b n h e = h
verdict-film w true None s y true n h e = absurd (true≢false e)
verdict-film w true None s y false n h e = go (eqb n 0)
  where
    go : (c : Bool) → NoStill (cond c (Entry.Dropped Empty n) (Entry.Delivered (record { len = n; stamp = s; layer = y })))
    go true = other Empty refl
    go false = tt
verdict-film true false q s y b n h e = tt
verdict-film false false (Some k) s y b n h e = h
verdict-film false false None s y b n h e = other Cut refl

pub judged-film : (o : Opening) (way c : Bool) (f : List Seen) → Clear f → NoStill (verdict way c (fault o f) (first_stamp f) (last_layer f) (still_of f) (length (data_of f)))
judged-film o way c f k = verdict-film way c (fault o f) (first_stamp f) (last_layer f) (still_of f) (length (data_of f)) (fault-not o f k) (still-clear f k)

loose-film : (es : List Event) → EachEntry NoStill (loose es)
loose-film [] = tt
loose-film (idle ∷ es) = (tt, loose-film es)
loose-film (unreadable n ∷ es) = (tt, loose-film es)
loose-film (missing ∷ es) = (tt, loose-film es)
loose-film (readable h d ∷ es) = (tt, loose-film es)
loose-film (mark ∷ es) = loose-film es

frames-film : (o : Opening) (cs : List Call) → Film (events o cs) → EachEntry NoStill (map entry_of (frames_by o cs))
frames-film o cs f = frames-each FilmHeader o NoStill (judged-film o) (λ n. tt) cs f

-- ---- both accounts are zero
reason-line : (w : Reason) → (w ≡ Mixed → ⊥) → (place_of (account_for w) ≡ place_of Account.Still → ⊥) × (place_of (account_for w) ≡ place_of Account.Mixed → ⊥)
reason-line Gap h = (λ e. omega arith, λ e. omega arith)
reason-line Error h = (λ e. omega arith, λ e. omega arith)
reason-line Clock h = (λ e. omega arith, λ e. omega arith)
reason-line Mixed h = absurd (h refl)
reason-line Long h = (λ e. omega arith, λ e. omega arith)
reason-line Cut h = (λ e. omega arith, λ e. omega arith)
reason-line Empty h = (λ e. omega arith, λ e. omega arith)

entry-line : (x : Entry) → NoStill x → (line_of x ≡ place_of Account.Still → ⊥) × (line_of x ≡ place_of Account.Mixed → ⊥)
entry-line (Entry.Still d) h = absurd h
entry-line (Entry.Dropped w n) h = reason-line w h
entry-line (Entry.Delivered d) h = (λ e. omega arith, λ e. omega arith)
entry-line (Entry.UnderWay n) h = (λ e. omega arith, λ e. omega arith)
entry-line (Entry.Stray n) h = (λ e. omega arith, λ e. omega arith)
entry-line (Entry.Unreadable n) h = (λ e. omega arith, λ e. omega arith)
entry-line (Entry.Headers n) h = (λ e. omega arith, λ e. omega arith)
entry-line Entry.Lost h = (λ e. omega arith, λ e. omega arith)
entry-line Entry.Idle h = (λ e. omega arith, λ e. omega arith)

module _ (k : ℕ) (apart : (x : Entry) → NoStill x → line_of x ≡ k → ⊥) where
  none-one : (es : List Entry) → EachEntry NoStill es → total (one_in k) es ≡ 0
  none-one [] f = refl
  none-one (x ∷ es) f = rw (ne_eqb (line_of x) k (apart x f.0)) (zero-add _ ∙ none-one es f.1)

  none-part : (es : List Entry) → EachEntry NoStill es → total (part_in k) es ≡ 0
  none-part [] f = refl
  none-part (x ∷ es) f = rw (ne_eqb (line_of x) k (apart x f.0)) (zero-add _ ∙ none-part es f.1)

pub without-stills : (o : Opening) (cs : List Call) (l : Ledger) → Right o cs l → Film (events o cs) → WithoutStills o cs l
without-stills o cs l r f =
    let n : EachEntry NoStill (entries o cs) = each_append NoStill (map entry_of (frames_by o cs)) (loose (events o cs)) (frames-film o cs f) (loose-film (events o cs)) in
    record {
      frames = frames-film o cs f;
      stills = r.counts Account.Still ∙ none-one (place_of Account.Still) (λ x h. (entry-line x h).0) (entries o cs) n;
      still-bytes = r.bytes Account.Still ∙ none-part (place_of Account.Still) (λ x h. (entry-line x h).0) (entries o cs) n;
      mixed = r.counts Account.Mixed ∙ none-one (place_of Account.Mixed) (λ x h. (entry-line x h).1) (entries o cs) n;
      mixed-bytes = r.bytes Account.Mixed ∙ none-part (place_of Account.Mixed) (λ x h. (entry-line x h).1) (entries o cs) n;
    }
