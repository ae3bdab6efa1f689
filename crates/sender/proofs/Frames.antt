-- The frames of the list are exactly the sent ones, each delivered with its length, its stamp and its bytes: from the rule alone.
use Rattle.std.specs.Prelude.{None, Some}
use Rattle.session_rules.specs.Options.{Layer, Stamp}
use Prim.Native.Nat.{ℕ, zero, suc, ◌+◌, ◌-◌, ◌≤◌, ◌<◌, min}
use mathlib.Core.Path.{◌≡◌, refl, sym, ap, subst, ◌∙◌}
use mathlib.Core.Bool.{Bool, true, false, cond, not, ◌&&◌, ◌||◌, beq}
use mathlib.Core.List.{List, [], ◌∷◌, ◌++◌, map}
use native.Mathlib.Omega.{arith}
use lib.ListN.{length, take, drop, length-drop, length-take, take-append-drop}
use borrow.Author.Tests.{le-ltb, eq-eqb, ne_eqb}
use Rattle.sizes.specs.declared.Opening.{Opening}
use Rattle.sizes.specs.declared.HeaderKind.TheVariants.{Old}
use Rattle.sizes.specs.Framing.{by_eof}
use Rattle.session_rules.specs.declared.Reading.{Reading}
use Rattle.session_rules.specs.Transfer.{reading_of}
use Rattle.session_rules.specs.Call.{Call}
use Rattle.books.specs.Rule.{Event, readable, event_by, events, is_open, Seen, spoiled, marks, readables, ahead, runs, eof_of, closes, frame_of, stray_of, closed, data_of, ◌or_stamp◌, first_stamp, ◌then_layer◌, last_layer, still_of, differs, fault_from, fault, judge, judged, nothing, frames_of, frames_by}
use Rattle.sender.specs.Header.{size_of, written, meant, Stamped}
use Rattle.sender.specs.Transfers.{Frame, is_nil, cut_by, cut, sent_of}
use Rattle.sender.specs.Claim.{Sendable, AllSendable, delivered}
use Rattle.sender.proofs.ReadsBack.{reads-back, data-back}

abbrev pub seen_of : Bool → Bool → Stamp → List ℕ → Seen
seen_of fid eof s d = record { header = meant fid eof s; load = d; before = false; after = false; marked = false }

abbrev pub seens : ℕ → ℕ → Bool → Stamp → List ℕ → List Seen
seens zero p fid s l = []
seens (suc k) p fid s [] = []
seens (suc k) p fid s (x ∷ l) = seen_of fid (is_nil (drop p (x ∷ l))) s (take p (x ∷ l)) ∷ seens k p fid s (drop p (x ∷ l))

-- a frame's, and all of them
abbrev pub seen_in : ℕ → Bool → Frame → List Seen
seen_in payload fid f = seens (length f.load) (payload - size_of f.stamp) fid f.stamp f.load

abbrev pub seen_all : ℕ → Bool → List Frame → List Seen
seen_all payload fid [] = []
seen_all payload fid (f ∷ fs) = seen_in payload fid f ++ seen_all payload (not fid) fs

abbrev pub event_in : Seen → Event
event_in t = readable t.header t.load

pub map-append : (qs bs : List Seen) → map event_in (qs ++ bs) ≡ map event_in qs ++ map event_in bs
map-append [] bs = refl
map-append (a ∷ qs) bs = ap (λ (m : List Event). event_in a ∷ m) (map-append qs bs)

-- ---- the readable transfers
abbrev pub Plain : List Seen → Type 0
Plain [] = Unit {0}
Plain (t ∷ ts) = (record { header = t.header; load = t.load; before = false; after = false; marked = false } ≡ t) × Plain ts

calm : (ts : List Seen) → (spoiled (map event_in ts) ≡ false) × (marks (map event_in ts) ≡ false)
calm [] = (refl, refl)
calm (t ∷ ts) = (refl, refl)

pub read_plain : (ts : List Seen) → Plain ts → readables false (map event_in ts) ≡ ts
read_plain [] p = refl
read_plain (t ∷ ts) p = rw ((calm ts).0, (calm ts).1) (λ i. p.0 i ∷ read_plain ts p.1 i)

plain-seens : (k p : ℕ) (fid : Bool) (s : Stamp) (l : List ℕ) → Plain (seens k p fid s l)
plain-seens zero p fid s l = tt
plain-seens (suc k) p fid s [] = tt
plain-seens (suc k) p fid s (x ∷ l) = (refl, plain-seens k p fid s (drop p (x ∷ l)))

pub plain-append : (qs bs : List Seen) → Plain qs → Plain bs → Plain (qs ++ bs)
plain-append [] bs a b = b
plain-append (t ∷ qs) bs a b = (a.0, plain-append qs bs a.1 b)

pub plain-all : (payload : ℕ) (fid : Bool) (fs : List Frame) → Plain (seen_all payload fid fs)
plain-all payload fid [] = tt
plain-all payload fid (f ∷ fs) = plain-append (seen_in payload fid f) (seen_all payload (not fid) fs) (plain-seens (length f.load) (payload - size_of f.stamp) fid f.stamp f.load) (plain-all payload (not fid) fs)

-- ---- the runs
abbrev pub Uni : Bool → List Seen → Type 0
Uni f [] = Unit {0}
Uni f (t ∷ ts) = (t.header.fid ≡ f) × Uni f ts

abbrev Turned : Bool → List (List Seen) → Type 0
Turned f [] = Unit {0}
Turned f ([] ∷ rs) = ⊥
Turned f ((t ∷ ts) ∷ rs) = t.header.fid ≡ not f

pub beq-not : (f : Bool) → beq f (not f) ≡ false
beq-not true = refl
beq-not false = refl

pub beq-self : (f : Bool) → beq f f ≡ true
beq-self true = refl
beq-self false = refl

ahead-turned : (f : Bool) (t : Seen) (rs : List (List Seen)) → t.header.fid ≡ f → Turned f rs → ahead t rs ≡ (t ∷ []) ∷ rs
ahead-turned f t [] e w = refl
ahead-turned f t ([] ∷ rs) e w = absurd w
ahead-turned f t ((u ∷ us) ∷ rs) e w = rw (e, w, beq-not f) refl

pub run-first : (f : Bool) (t : Seen) (ts vs : List Seen) → Uni f (t ∷ ts) → Turned f (runs vs) → runs ((t ∷ ts) ++ vs) ≡ (t ∷ ts) ∷ runs vs
run-first f t [] vs u w = ahead-turned f t (runs vs) u.0 w
run-first f t (s ∷ ts) vs u w = ap (ahead t) (run-first f s ts vs u.1 w) ∙ (rw (u.0, u.1.0, beq-self f) refl)

pub uni-seens : (k p : ℕ) (fid : Bool) (s : Stamp) (l : List ℕ) → Uni fid (seens k p fid s l)
uni-seens zero p fid s l = tt
uni-seens (suc k) p fid s [] = tt
uni-seens (suc k) p fid s (x ∷ l) = (refl, uni-seens k p fid s (drop p (x ∷ l)))

module _ (o : Opening) (old : o.kind ≡ Old) (eof : by_eof o ≡ true) where
  -- ---- the events
  pub one-event : (fid e : Bool) (s : Stamp) (d : List ℕ) → Stamped s → size_of s + length d ≤ o.payload → event_by (reading_of o (written fid e s ++ d)) (written fid e s ++ d) ≡ event_in (seen_of fid e s d)
  one-event fid e s d b h = ap (λ (r : Reading). event_by r (written fid e s ++ d)) (reads-back o fid e s d old b h) ∙ ap (readable (meant fid e s)) (data-back fid e s d)

  cut-events : (k p : ℕ) (fid : Bool) (s : Stamp) (l : List ℕ) → Stamped s → size_of s + p ≤ o.payload → events o (map Call.transfer (cut_by k p fid s l)) ≡ map event_in (seens k p fid s l)
  cut-events zero p fid s l b h = refl
  cut-events (suc k) p fid s [] b h = refl
  cut-events (suc k) p fid s (x ∷ l) b h =
      let e : length (take p (x ∷ l)) ≡ min p (length (x ∷ l)) = length-take p (x ∷ l) in
      λ i. one-event fid (is_nil (drop p (x ∷ l))) s (take p (x ∷ l)) b (omega arith) i ∷ cut-events k p fid s (drop p (x ∷ l)) b h i

  events-append : (qs bs : List (List ℕ)) → events o (map Call.transfer (qs ++ bs)) ≡ events o (map Call.transfer qs) ++ events o (map Call.transfer bs)
  events-append [] bs = refl
  events-append (a ∷ qs) bs = ap (λ (m : List Event). event_by (reading_of o a) a ∷ m) (events-append qs bs)

  pub all-events : (fid : Bool) (fs : List Frame) → AllSendable o fs → events o (map Call.transfer (sent_of o.payload fid fs)) ≡ map event_in (seen_all o.payload fid fs)
  all-events fid [] w = refl
  all-events fid (f ∷ fs) w =
      events-append (cut o.payload fid f) (sent_of o.payload (not fid) fs)
      ∙ (λ i. cut-events (length f.load) (o.payload - size_of f.stamp) fid f.stamp f.load w.0.stamped (omega (arith, w.0.above)) i ++ all-events (not fid) fs w.1 i)
      ∙ sym (map-append (seen_in o.payload fid f) (seen_all o.payload (not fid) fs))

  -- ---- the frame of a run
  module _ (p : ℕ) (fid : Bool) (s : Stamp) where
    pub last-closes : (b : Bool) (d : List ℕ) → closes o (seen_of fid b s d) ≡ b
    last-closes b d = rw eof (or-false b)
      where
        or-false : (b : Bool) → (b || false) ≡ b
        or-false true = refl
        or-false false = refl

    pub frame-all : (k : ℕ) (l : List ℕ) → frame_of o (seens k p fid s l) ≡ seens k p fid s l
    frame-all zero l = refl
    frame-all (suc k) [] = refl
    frame-all (suc k) (x ∷ l) = go (drop p (x ∷ l)) refl (frame-all k (drop p (x ∷ l)))
      where
        t : List ℕ → Seen
        t m = seen_of fid (is_nil m) s (take p (x ∷ l))

        go : (m : List ℕ) → drop p (x ∷ l) ≡ m → frame_of o (seens k p fid s m) ≡ seens k p fid s m → t m ∷ cond (closes o (t m)) [] (frame_of o (seens k p fid s m)) ≡ t m ∷ seens k p fid s m
        go [] q f = rw (last-closes true (take p (x ∷ l))) (ap (λ (z : List Seen). t [] ∷ z) (sym (none k)))
          where
            none : (j : ℕ) → seens j p fid s [] ≡ []
            none zero = refl
            none (suc j) = refl
        go (y ∷ m) q f = rw (last-closes false (take p (x ∷ l))) (ap (λ (z : List Seen). t (y ∷ m) ∷ z) f)

    pub data-all : (k : ℕ) (l : List ℕ) → length l ≤ k → 1 ≤ p → data_of (seens k p fid s l) ≡ l
    data-all zero [] h g = refl
    data-all zero (x ∷ l) h g = absurd (omega arith)
    data-all (suc k) [] h g = refl
    data-all (suc k) (x ∷ l) h g =
        let e : length (drop p (x ∷ l)) ≡ length (x ∷ l) - p = length-drop p (x ∷ l) in
        ap (λ (m : List ℕ). take p (x ∷ l) ++ m) (data-all k (drop p (x ∷ l)) (omega arith) g) ∙ take-append-drop p (x ∷ l)

    no-differ : (z : Stamp) → differs z z ≡ false
    no-differ None = refl
    no-differ (Some x) = rw (eq-eqb x x refl) refl

    pub sound-all : (k n : ℕ) (l : List ℕ) → n + length l ≤ o.frame → fault_from o s false n (seens k p fid s l) ≡ None
    sound-all zero n l h = refl
    sound-all (suc k) n [] h = refl
    sound-all (suc k) n (x ∷ l) h =
        let a : length (take p (x ∷ l)) ≡ min p (length (x ∷ l)) = length-take p (x ∷ l) in
        let b : length (drop p (x ∷ l)) ≡ length (x ∷ l) - p = length-drop p (x ∷ l) in
        rw (no-differ s, le-ltb o.frame (n + length (take p (x ∷ l))) (omega arith), and-false (not (eof_of o (meant fid (is_nil (drop p (x ∷ l))) s)))) (sound-all k (n + length (take p (x ∷ l))) (drop p (x ∷ l)) (omega arith))
      where
        and-false : (b : Bool) → (b && false) ≡ false
        and-false true = refl
        and-false false = refl

    pub closed_all : (k : ℕ) (l : List ℕ) → 1 ≤ length l → length l ≤ k → 1 ≤ p → closed o (seens k p fid s l) ≡ true
    closed_all zero l a h g = absurd (omega arith)
    closed_all (suc k) [] a h g = absurd (omega arith)
    closed_all (suc k) (x ∷ l) a h g =
        go (drop p (x ∷ l)) (let e : length (drop p (x ∷ l)) ≡ length (x ∷ l) - p = length-drop p (x ∷ l) in omega arith) (λ m u v. closed_all k m u v g)
      where
        or-true : (b : Bool) → (b || true) ≡ true
        or-true true = refl
        or-true false = refl

        go : (m : List ℕ) → length m ≤ k → ((m : List ℕ) → 1 ≤ length m → length m ≤ k → closed o (seens k p fid s m) ≡ true)
            → (closes o (seen_of fid (is_nil m) s (take p (x ∷ l))) || closed o (seens k p fid s m)) ≡ true
        go [] n w = rw (last-closes true (take p (x ∷ l))) refl
        go (y ∷ m) n w = rw (w (y ∷ m) (omega arith) n) (or-true (closes o (seen_of fid false s (take p (x ∷ l)))))

    pub stray-none : (k : ℕ) (l : List ℕ) → stray_of o (seens k p fid s l) ≡ []
    stray-none zero l = refl
    stray-none (suc k) [] = refl
    stray-none (suc k) (x ∷ l) = go (drop p (x ∷ l)) (stray-none k (drop p (x ∷ l)))
      where
        none : (j : ℕ) → seens j p fid s [] ≡ []
        none zero = refl
        none (suc j) = refl

        go : (m : List ℕ) → stray_of o (seens k p fid s m) ≡ [] → cond (closes o (seen_of fid (is_nil m) s (take p (x ∷ l)))) (seens k p fid s m) (stray_of o (seens k p fid s m)) ≡ []
        go [] f = rw (last-closes true (take p (x ∷ l))) (none k)
        go (y ∷ m) f = rw (last-closes false (take p (x ∷ l))) f

    pub layer-none : (k : ℕ) (l : List ℕ) → last_layer (seens k p fid s l) ≡ None
    layer-none zero l = refl
    layer-none (suc k) [] = refl
    layer-none (suc k) (x ∷ l) = ap (λ (z : Layer). None then_layer z) (layer-none k (drop p (x ∷ l)))

    pub stamp-first : (k x : ℕ) (l : List ℕ) → first_stamp (seens (suc k) p fid s (x ∷ l)) ≡ s
    stamp-first k x l = go s refl k (drop p (x ∷ l))
      where
        others : (j : ℕ) (m : List ℕ) → s ≡ None → first_stamp (seens j p fid s m) ≡ None
        others zero m e = refl
        others (suc j) [] e = refl
        others (suc j) (y ∷ m) e = ap (λ (z : Stamp). z or_stamp first_stamp (seens j p fid s (drop p (y ∷ m)))) e ∙ others j (drop p (y ∷ m)) e

        go : (z : Stamp) → s ≡ z → (j : ℕ) (m : List ℕ) → (z or_stamp first_stamp (seens j p fid s m)) ≡ z
        go None e j m = others j m e
        go (Some n) e j m = refl

  -- ---- one frame
  judged-one : (last : Bool) (r : List Seen) (l : List ℕ) (s : Stamp) → frame_of o r ≡ r → closed o r ≡ true → fault o r ≡ None → first_stamp r ≡ s → last_layer r ≡ None → still_of r ≡ false → data_of r ≡ l → stray_of o r ≡ [] → 1 ≤ length l
      → judge o true last r ≡ delivered (record { load = l; stamp = s }) ∷ []
  judged-one last r l s e c q a y b d t n = rw (e, c, q, a, y, b, d, t, ne_eqb (length l) 0 (λ z. omega arith)) refl

  one-frame : (fid last : Bool) (f : Frame) → Sendable o f → judge o true last (seen_in o.payload fid f) ≡ delivered f ∷ []
  one-frame fid last f w = go f.load f.stamp w.some w.few w.above
    where
      go : (l : List ℕ) (s : Stamp) → 1 ≤ length l → length l ≤ o.frame → size_of s < o.payload
          → judge o true last (seens (length l) (o.payload - size_of s) fid s l) ≡ delivered (record { load = l; stamp = s }) ∷ []
      go [] s a b c = absurd (omega arith)
      go (x ∷ l) s a b c =
          let p : ℕ = o.payload - size_of s in
          let k : ℕ = length (x ∷ l) in
          let g : 1 ≤ o.payload - size_of s = omega arith in
          let r : List Seen = seens (length (x ∷ l)) (o.payload - size_of s) fid s (x ∷ l) in
          let q : fault o r ≡ None = ap (λ (z : Stamp). fault_from o z false 0 r) (stamp-first (o.payload - size_of s) fid s (length l) x l) ∙ sound-all (o.payload - size_of s) fid s (length (x ∷ l)) 0 (x ∷ l) (omega arith) in
          judged-one last r (x ∷ l) s (frame-all (o.payload - size_of s) fid s (length (x ∷ l)) (x ∷ l)) (closed_all (o.payload - size_of s) fid s (length (x ∷ l)) (x ∷ l) a (omega arith) g) q
          (stamp-first (o.payload - size_of s) fid s (length l) x l) (layer-none (o.payload - size_of s) fid s (length (x ∷ l)) (x ∷ l)) refl (data-all (o.payload - size_of s) fid s (length (x ∷ l)) (x ∷ l) (omega arith) g)
          (stray-none (o.payload - size_of s) fid s (length (x ∷ l)) (x ∷ l)) a

  -- ---- all of them
  pub seen-some : (fid : Bool) (f : Frame) → Sendable o f → (t : Seen) × ((ts : List Seen) × ((seen_in o.payload fid f ≡ t ∷ ts) × (t.header.fid ≡ fid)))
  seen-some fid f w = go f.load w.some
    where
      go : (l : List ℕ) → 1 ≤ length l → (t : Seen) × ((ts : List Seen) × ((seens (length l) (o.payload - size_of f.stamp) fid f.stamp l ≡ t ∷ ts) × (t.header.fid ≡ fid)))
      go [] a = absurd (omega arith)
      go (x ∷ l) a = (_, (_, (refl, refl)))

  runs-all : (fid : Bool) (f : Frame) (vs : List Seen) → Sendable o f → Turned fid (runs vs) → runs (seen_in o.payload fid f ++ vs) ≡ seen_in o.payload fid f ∷ runs vs
  runs-all fid f vs w u =
      let z = seen-some fid f w in
      let n : Uni fid (z.0 ∷ z.1.0) = subst (Uni fid) z.1.1.0 (uni-seens (length f.load) (o.payload - size_of f.stamp) fid f.stamp f.load) in
      ap (λ (r : List Seen). runs (r ++ vs)) z.1.1.0 ∙ run-first fid z.0 z.1.0 vs n u ∙ ap (λ (r : List Seen). r ∷ runs vs) (sym z.1.1.0)

  turned-all : (fid : Bool) (fs : List Frame) → AllSendable o fs → Turned fid (runs (seen_all o.payload (not fid) fs))
  turned-all fid [] w = tt
  turned-all fid (f ∷ fs) w =
      let e = runs-all (not fid) f (seen_all o.payload (not (not fid)) fs) w.0 (turned-all (not fid) fs w.1) in
      let z = seen-some (not fid) f w.0 in
      subst (Turned fid) (sym (e ∙ ap (λ (r : List Seen). r ∷ runs (seen_all o.payload (not (not fid)) fs)) z.1.1.0)) z.1.1.1

  judged-all : (fid : Bool) (fs : List Frame) → AllSendable o fs → judged o true (runs (seen_all o.payload fid fs)) ≡ map delivered fs
  judged-all fid [] w = refl
  judged-all fid (f ∷ fs) w =
      let vs : List Seen = seen_all o.payload (not fid) fs in
      ap (judged o true) (runs-all fid f (seen_all o.payload (not fid) fs) w.0 (turned-all fid fs w.1))
      ∙ (λ i. one-frame fid (nothing (runs (seen_all o.payload (not fid) fs))) f w.0 i ++ judged-all (not fid) fs w.1 i)

  pub open-all : (ts : List (List ℕ)) → is_open (map Call.transfer ts) ≡ true
  open-all [] = refl
  open-all (t ∷ ts) = open-all ts

  -- THE FRAMES OF THE LIST ARE THE SENT ONES
  pub frames-arrive : (fid : Bool) (fs : List Frame) → AllSendable o fs → frames_by o (map Call.transfer (sent_of o.payload fid fs)) ≡ map delivered fs
  frames-arrive fid fs w =
      (λ i. frames_of o (open-all (sent_of o.payload fid fs) i) (all-events fid fs w i))
      ∙ ap (λ (ts : List Seen). judged o true (runs ts)) (read_plain (seen_all o.payload fid fs) (plain-all o.payload fid fs))
      ∙ judged-all fid fs w
