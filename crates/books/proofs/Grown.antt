-- One transfer more at the end of a run, and a gap after its last: what the rule says of its frame.
use Rattle.std.specs.Prelude.{None, Some}
use Rattle.session_rules.specs.Options.{Fault, Stamp}
use Prim.Native.Nat.{ℕ, ◌+◌}
use mathlib.Core.Path.{◌≡◌, refl, sym, ◌∙◌, ap}
use mathlib.Core.Bool.{Bool, true, false, cond, not, ◌&&◌, ◌||◌, true≢false}
use mathlib.Core.List.{List, [], ◌∷◌, ◌++◌, append_assoc, append-nil}
use native.Mathlib.Nat.{add-zero, zero-add, add_assoc}
use lib.ListN.{length, length-append}
use Rattle.sizes.specs.declared.Opening.{Opening}
use Rattle.session_rules.specs.declared.Reason.TheVariants.{Gap}
use Rattle.rules.proofs.Rows.{or-second}
use Rattle.books.specs.Rule.{Seen, eof_of, closes, frame_of, stray_of, closed, data_of, ◌or_stamp◌, first_stamp, ◌then_layer◌, last_layer, still_of, ◌or◌, when, fault_at, gap_after, fault_from, gap_before, fault}
use Rattle.books.specs.Answer.{earlier}
use Rattle.books.proofs.Cut.{or_sound, or_assoc, stamp-assoc, stamp-absent, layer-assoc, absent-layer}
use Rattle.books.proofs.OneMore.{spoil_last, mark_last}

abbrev pub and : List Seen → Seen → List Seen
and r t = r ++ (t ∷ [])

-- ---- a run that nothing closes is a frame
module _ (o : Opening) where
  pub frame-whole : (r : List Seen) → closed o r ≡ false → frame_of o r ≡ r
  frame-whole [] e = refl
  frame-whole (t ∷ ts) e = go (closes o t) e (frame-whole ts)
    where
      go : (b : Bool) → (b || closed o ts) ≡ false → (closed o ts ≡ false → frame_of o ts ≡ ts) → ◌≡◌ {A = List Seen} (t ∷ cond b [] (frame_of o ts)) (t ∷ ts)
      go true q rec = absurd (true≢false q)
      go false q rec = ap (t ∷◌) (rec q)

  pub stray-whole : (r : List Seen) → closed o r ≡ false → stray_of o r ≡ []
  stray-whole [] e = refl
  stray-whole (t ∷ ts) e = go (closes o t) e (stray-whole ts)
    where
      go : (b : Bool) → (b || closed o ts) ≡ false → (closed o ts ≡ false → stray_of o ts ≡ []) → cond b ts (stray_of o ts) ≡ []
      go true q rec = absurd (true≢false q)
      go false q rec = rec q

  pub closed-frame : (r : List Seen) → closed o (frame_of o r) ≡ closed o r
  closed-frame [] = refl
  closed-frame (t ∷ ts) = go (closes o t) (closed-frame ts)
    where
      go : (b : Bool) → closed o (frame_of o ts) ≡ closed o ts → (b || closed o (cond b [] (frame_of o ts))) ≡ (b || closed o ts)
      go true rec = refl
      go false rec = rec

  pub closed-more : (r : List Seen) (t : Seen) → closed o (and r t) ≡ (closed o r || closes o t)
  closed-more [] t = go (closes o t)
    where
      go : (b : Bool) → (b || false) ≡ b
      go true = refl
      go false = refl
  closed-more (u ∷ us) t = go (closes o u) (closed-more us t)
    where
      go : (b : Bool) → closed o (and us t) ≡ (closed o us || closes o t) → (b || closed o (and us t)) ≡ ((b || closed o us) || closes o t)
      go true rec = refl
      go false rec = rec

  -- the frame goes on with the transfer, where nothing closes the run yet
  pub frame-more : (r : List Seen) (t : Seen) → closed o r ≡ false → frame_of o (and r t) ≡ and r t
  frame-more [] t e = go (closes o t)
    where
      go : (b : Bool) → ◌≡◌ {A = List Seen} (t ∷ cond b [] []) (t ∷ [])
      go true = refl
      go false = refl
  frame-more (u ∷ us) t e = go (closes o u) e (frame-more us t)
    where
      go : (b : Bool) → (b || closed o us) ≡ false → (closed o us ≡ false → frame_of o (and us t) ≡ and us t) → ◌≡◌ {A = List Seen} (u ∷ cond b [] (frame_of o (and us t))) (u ∷ and us t)
      go true q rec = absurd (true≢false q)
      go false q rec = ap (u ∷◌) (rec q)

  pub stray-none : (r : List Seen) (t : Seen) → closed o r ≡ false → stray_of o (and r t) ≡ []
  stray-none [] t e = go (closes o t)
    where
      go : (b : Bool) → ◌≡◌ {A = List Seen} (cond b [] []) []
      go true = refl
      go false = refl
  stray-none (u ∷ us) t e = go (closes o u) e (stray-none us t)
    where
      go : (b : Bool) → (b || closed o us) ≡ false → (closed o us ≡ false → stray_of o (and us t) ≡ []) → cond b (and us t) (stray_of o (and us t)) ≡ []
      go true q rec = absurd (true≢false q)
      go false q rec = rec q

  -- after an EOF or a mark it is stray
  pub stray-more : (r : List Seen) (t : Seen) → closed o r ≡ true → stray_of o (and r t) ≡ and (stray_of o r) t
  stray-more [] t e = absurd (true≢false (sym e))
  stray-more (u ∷ us) t e = go (closes o u) e (stray-more us t)
    where
      go : (b : Bool) → (b || closed o us) ≡ true → (closed o us ≡ true → stray_of o (and us t) ≡ and (stray_of o us) t) → cond b (and us t) (stray_of o (and us t)) ≡ and (cond b us (stray_of o us)) t
      go true q rec = refl
      go false q rec = rec q

pub earlier_more : (r : List Seen) (t : Seen) → earlier (and r t) ≡ r
earlier_more [] t = refl
earlier_more (u ∷ []) t = refl
earlier_more (u ∷ (v ∷ vs)) t = ap (u ∷◌) (earlier_more (v ∷ vs) t)

-- ---- its data, its first stamp, its last layer and its fault
pub data-more : (r : List Seen) (t : Seen) → data_of (and r t) ≡ data_of r ++ t.load
data-more [] t = append-nil t.load
data-more (u ∷ us) t = ap (u.load ++◌) (data-more us t) ∙ sym (append_assoc u.load (data_of us) t.load)

pub stamp-more : (r : List Seen) (t : Seen) → first_stamp (and r t) ≡ first_stamp r or_stamp t.header.stamp
stamp-more [] t = stamp-absent t.header.stamp
stamp-more (u ∷ us) t = ap (u.header.stamp or_stamp◌) (stamp-more us t) ∙ stamp-assoc u.header.stamp (first_stamp us) t.header.stamp

pub layer-more : (r : List Seen) (t : Seen) → last_layer (and r t) ≡ last_layer r then_layer t.header.layer
layer-more [] t = sym (absent-layer t.header.layer)
layer-more (u ∷ us) t = ap (u.header.layer then_layer◌) (layer-more us t) ∙ layer-assoc u.header.layer (last_layer us) t.header.layer

module _ (o : Opening) where
  -- where the frame has no stamp, none differs, whatever the first one will be
  unstamped : (r : List Seen) (s z : Stamp) (b : Bool) (n : ℕ) → first_stamp r ≡ None → fault_from o s b n r ≡ fault_from o z b n r
  unstamped [] s z b n e = refl
  unstamped (t ∷ ts) s z b n e = go t.header.stamp refl e (unstamped ts s z b (n + length t.load))
    where
      go : (x : Stamp) → t.header.stamp ≡ x → (x or_stamp first_stamp ts) ≡ None → (first_stamp ts ≡ None → fault_from o s b (n + length t.load) ts ≡ fault_from o z b (n + length t.load) ts)
          → fault_from o s b n (t ∷ ts) ≡ fault_from o z b n (t ∷ ts)
      go None q f rec = rw (q, rec f)
      go (Some x) q f rec = cc

  first-held : (r : List Seen) (s : Stamp) (b : Bool) (n : ℕ) → fault_from o (first_stamp r or_stamp s) b n r ≡ fault_from o (first_stamp r) b n r
  first-held r s b n = go (first_stamp r) refl
    where
      go : (x : Stamp) → first_stamp r ≡ x → fault_from o (x or_stamp s) b n r ≡ fault_from o x b n r
      go None e = unstamped r s None b n e
      go (Some x) e = refl

  abbrev own : Stamp → Bool → ℕ → Seen → Fault
  own s b n t = fault_at o s b n t.header (length t.load) or when (gap_after o t) Gap

  from_more : (r : List Seen) (s : Stamp) (b : Bool) (n : ℕ) (t : Seen) → fault_from o s b n (and r t) ≡ fault_from o s b n r or own s b (n + length (data_of r)) t
  from_more [] s b n t = rw (add-zero n, or_sound (when (gap_after o t) Gap))
  from_more (u ∷ us) s b n t =
      let a : Fault = fault_at o s b n u.header (length u.load) in
      let g : Fault = when (gap_after o u) Gap in
      let f : Fault = fault_from o s b (n + length u.load) us in
      let x : Fault = own s b ((n + length u.load) + length (data_of us)) t in
      ap (λ (y : Fault). a or (g or y)) (from_more us s b (n + length u.load) t)
      ∙ ap (a or◌) (or_assoc g f x)
      ∙ or_assoc a (g or f) x
      ∙ ap (λ (k : ℕ). (a or (g or f)) or own s b k t) (add_assoc n (length u.load) (length (data_of us)) ∙ ap (n +◌) (sym (length-append u.load (data_of us))))

  -- the fault of a frame that the transfer t goes on with, or starts
  abbrev pub so_far : Seen → List Seen → Fault
  so_far t [] = when t.before Gap
  so_far t (u ∷ us) = fault o (u ∷ us)

  pub fault-more : (r : List Seen) (t : Seen) → fault o (and r t) ≡ so_far t r or own (first_stamp (and r t)) (still_of (and r t)) (length (data_of r)) t
  fault-more [] t = rw (or_sound (when (gap_after o t) Gap))
  fault-more (u ∷ us) t =
      let r : List Seen = u ∷ us in
      let s : Stamp = first_stamp (and r t) in
      let b : Bool = u.header.still in
      let g : Fault = when u.before Gap in
      ap (g or◌) (from_more r s b 0 t ∙ ap (λ (k : ℕ). fault_from o s b 0 r or own s b k t) (zero-add (length (data_of r))))
      ∙ or_assoc g (fault_from o s b 0 r) (own s b (length (data_of r)) t)
      ∙ ap (λ (f : Fault). (g or f) or own s b (length (data_of r)) t) (ap (λ (z : Stamp). fault_from o z b 0 r) (stamp-more r t) ∙ first-held r t.header.stamp b 0)

-- ---- a gap after the last transfer
pub closed-spoilt : (o : Opening) (r : List Seen) → closed o (spoil_last r) ≡ closed o r
closed-spoilt o [] = refl
closed-spoilt o (t ∷ []) = refl
closed-spoilt o (t ∷ (u ∷ us)) = ap (closes o t ||◌) (closed-spoilt o (u ∷ us))

pub data-spoilt : (r : List Seen) → data_of (spoil_last r) ≡ data_of r
data-spoilt [] = refl
data-spoilt (t ∷ []) = refl
data-spoilt (t ∷ (u ∷ us)) = ap (t.load ++◌) (data-spoilt (u ∷ us))

pub stamp-spoilt : (r : List Seen) → first_stamp (spoil_last r) ≡ first_stamp r
stamp-spoilt [] = refl
stamp-spoilt (t ∷ []) = refl
stamp-spoilt (t ∷ (u ∷ us)) = ap (t.header.stamp or_stamp◌) (stamp-spoilt (u ∷ us))

pub layer-spoilt : (r : List Seen) → last_layer (spoil_last r) ≡ last_layer r
layer-spoilt [] = refl
layer-spoilt (t ∷ []) = refl
layer-spoilt (t ∷ (u ∷ us)) = ap (t.header.layer then_layer◌) (layer-spoilt (u ∷ us))

pub still-spoilt : (r : List Seen) → still_of (spoil_last r) ≡ still_of r
still-spoilt [] = refl
still-spoilt (t ∷ []) = refl
still-spoilt (t ∷ (u ∷ us)) = refl

gap-once : (a : Fault) (e m c : Bool) → ((e || m) || false) ≡ false → a or (when (not e && (c || not m)) Gap or None) ≡ (a or (when (not e && c) Gap or None)) or Some Gap
gap-once a true m c e = absurd (true≢false e)
gap-once a false true c e = absurd (true≢false e)
gap-once None false false true e = refl
gap-once None false false false e = refl
gap-once (Some w) false false c e = refl

from-spoilt : (o : Opening) (s : Stamp) (b : Bool) (n : ℕ) (t : Seen) (ts : List Seen) → closed o (t ∷ ts) ≡ false → fault_from o s b n (spoil_last (t ∷ ts)) ≡ fault_from o s b n (t ∷ ts) or Some Gap
from-spoilt o s b n t [] e = gap-once (fault_at o s b n t.header (length t.load)) (eof_of o t.header) t.marked t.after e
from-spoilt o s b n t (u ∷ us) e =
    let a : Fault = fault_at o s b n t.header (length t.load) in
    let g : Fault = when (gap_after o t) Gap in
    let f : Fault = fault_from o s b (n + length t.load) (u ∷ us) in
    ap (λ (y : Fault). a or (g or y)) (from-spoilt o s b (n + length t.load) u us (or-second (closes o t) (closed o (u ∷ us)) e))
    ∙ ap (a or◌) (or_assoc g f (Some Gap))
    ∙ or_assoc a (g or f) (Some Gap)

before-spoilt : (r : List Seen) → gap_before (spoil_last r) ≡ gap_before r
before-spoilt [] = refl
before-spoilt (t ∷ []) = refl
before-spoilt (t ∷ (u ∷ us)) = refl

pub fault-spoilt : (o : Opening) (t : Seen) (ts : List Seen) → closed o (t ∷ ts) ≡ false → fault o (spoil_last (t ∷ ts)) ≡ fault o (t ∷ ts) or Some Gap
fault-spoilt o t ts e =
    let r : List Seen = t ∷ ts in
    let b : Bool = t.header.still in
    ap (λ (c : Bool). when c Gap or fault_from o (first_stamp (spoil_last r)) (still_of (spoil_last r)) 0 (spoil_last r)) (before-spoilt r)
    ∙ ap (λ (c : Bool). when t.before Gap or fault_from o (first_stamp (spoil_last r)) c 0 (spoil_last r)) (still-spoilt r)
    ∙ ap (λ (s : Stamp). when t.before Gap or fault_from o s b 0 (spoil_last r)) (stamp-spoilt r)
    ∙ ap (when t.before Gap or◌) (from-spoilt o (first_stamp r) b 0 t ts e)
    ∙ or_assoc (when t.before Gap) (fault_from o (first_stamp r) b 0 r) (Some Gap)

-- ---- a mark after the last transfer closes the run
or-true : (b : Bool) → (b || true) ≡ true
or-true true = refl
or-true false = refl

pub closed-marked : (o : Opening) (t : Seen) (ts : List Seen) → closed o (mark_last (t ∷ ts)) ≡ true
closed-marked o t [] = ap (◌|| false) (or-true (eof_of o t.header))
closed-marked o t (u ∷ us) = ap (closes o t ||◌) (closed-marked o u us) ∙ or-true (closes o t)
