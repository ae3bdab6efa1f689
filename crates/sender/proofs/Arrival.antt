-- THE CLAIM, call by call.
use Rattle.std.specs.Prelude.{None}
use Rattle.session_rules.specs.Options.{Stamp}
use Prim.Native.Nat.{ℕ, zero, suc, ◌+◌, ◌-◌, ◌≤◌, ◌<◌, min}
use mathlib.Core.Path.{◌≡◌, refl, sym, ap, subst, ◌∙◌}
use mathlib.Core.Bool.{Bool, true, false, cond, not, beq}
use mathlib.Core.List.{List, [], ◌∷◌, ◌++◌, map, append_assoc, append-nil}
use native.Mathlib.Omega.{arith}
use lib.ListN.{length, take, drop, length-append, length-drop, length-take}
use borrow.Author.Tests.{le-ltb, ne_eqb}
use Rattle.rules.proofs.Rows.{or-second}
use Rattle.sizes.specs.declared.Opening.{Opening}
use Rattle.sizes.specs.declared.HeaderKind.TheVariants.{Old}
use Rattle.sizes.specs.Framing.{by_eof}
use Rattle.sizes.specs.Sizes.{payload_most, frame_size_broken, payload_size_broken, sizes_broken}
use Rattle.sizes.proofs.Limits.{payload-sound}
use Rattle.session_rules.specs.declared.Header.{Header}
use Rattle.session_rules.specs.declared.Reading.{Reading}
use Rattle.session_rules.specs.declared.Reading.TheVariants.{Idle, Unreadable, Readable}
use Rattle.session_rules.specs.Transfer.{reading_of}
use Rattle.session_rules.specs.declared.Fate.{Fate}
use Rattle.session_rules.specs.declared.Answer.{Answer}
use Rattle.session_rules.specs.declared.Delivery.{Delivery}
use Rattle.session_rules.specs.Rule50.{transfer_most}
use Rattle.session_rules.specs.Refusals.{taken_most}
use Rattle.session_rules.specs.declared.Outcome.{Outcome}
use Rattle.session_rules.specs.Session.{fresh, take_of, buffer_of}
use Rattle.session_rules.specs.Call.{Ask, Call}
use Rattle.session_rules.specs.Calls.{Offer, refusal, after, call_by, call_of, unless, taken, offers, offer_with, buffer_after}
use Rattle.books.specs.Rule.{Event, event_by, events, Seen, readables, same, ahead, runs, closes, frame_of, stray_of, closed, data_of, first_stamp, last_layer, still_of, fault, fault_from}
use Rattle.books.specs.Answer.{last_of, last_run, turned_in, goes_on, fate_on, with, answer_for, answer_of, hands_for, out_of, outcome_of}
use Rattle.books.specs.Offers.{taken_in, list_of, refused_or}
use Rattle.books.specs.Alike.{At, onward, NoneRefused, Said, out_length, Heard, hears, heard}
use Rattle.books.proofs.Proved.{frames-whole, no-input-stops, nothing-missing}
use Rattle.books.proofs.Answers.{taken_more}
use Rattle.books.proofs.Whole.{kept-all}
use Rattle.sender.specs.Header.{size_of, written}
use Rattle.sender.specs.Transfers.{Frame, is_nil, cut_by, cut, sent_of}
use Rattle.sender.specs.Claim.{Sendable, AllSendable, receiver, delivery_of, lastly, each_frame, said_with, said_last}
use Rattle.sender.proofs.ReadsBack.{reads-back}
use Rattle.sender.proofs.Cut.{part_length}
use Rattle.sender.proofs.Frames.{seen_of, seens, seen_in, event_in, one-event, Plain, read_plain, plain-append, open-all, run-first, Uni, uni-seens, beq-not, beq-self, last-closes, frame-all, closed_all, sound-all, stray-none, layer-none, stamp-first, data-all, map-append, seen-some}

-- ---- positions: where the receiver is after calls
abbrev place : At → List Ask → At
place x ks = record { session = after x.session (offers x.session x.buffer ks); buffer = buffer_after x.session x.buffer ks }

onward-is : (x : At) (ks : List Ask) (k : Ask) → onward (place x ks) k ≡ place x (ks ++ (k ∷ []))
onward-is x [] k = refl
onward-is x (j ∷ ks) k = onward-is (onward x j) ks k

offers-more : (x : At) (ks : List Ask) (k : Ask) → offers x.session x.buffer (ks ++ (k ∷ [])) ≡ offers x.session x.buffer ks ++ (offer_with (place x ks).buffer k ∷ [])
offers-more x [] k = refl
offers-more x (j ∷ ks) k = ap (λ (l : List Offer). offer_with x.buffer j ∷ l) (offers-more (onward x j) ks k)

-- ---- runs: a new run behind a list that ends with the other FID
abbrev Turns : Bool → List Seen → Type 0
Turns f [] = Unit {0}
Turns f (v ∷ []) = v.header.fid ≡ not f
Turns f (v ∷ (w ∷ vs)) = Turns f (w ∷ vs)

beq-turned : (f : Bool) → beq (not f) f ≡ false
beq-turned true = refl
beq-turned false = refl

ahead-append : (v : Seen) (q : List Seen) (qs ss : List (List Seen)) → ahead v ((q ∷ qs) ++ ss) ≡ ahead v (q ∷ qs) ++ ss
ahead-append v [] qs ss = refl
ahead-append v (u ∷ us) qs ss = go (same v u)
  where
    go : (b : Bool) → cond b ((v ∷ u ∷ us) ∷ (qs ++ ss)) ((v ∷ []) ∷ (u ∷ us) ∷ (qs ++ ss)) ≡ cond b ((v ∷ u ∷ us) ∷ qs) ((v ∷ []) ∷ (u ∷ us) ∷ qs) ++ ss
    go true = refl
    go false = refl

runs-some : (v : Seen) (vs : List Seen) → (q : List Seen) × ((qs : List (List Seen)) × (runs (v ∷ vs) ≡ q ∷ qs))
runs-some v vs = go (runs vs)
  where
    go : (rs : List (List Seen)) → (q : List Seen) × ((qs : List (List Seen)) × (ahead v rs ≡ q ∷ qs))
    go [] = (_, (_, refl))
    go ([] ∷ rs) = (_, (_, refl))
    go ((u ∷ us) ∷ rs) = pick (same v u)
      where
        pick : (b : Bool) → (q : List Seen) × ((qs : List (List Seen)) × (cond b ((v ∷ u ∷ us) ∷ rs) ((v ∷ []) ∷ (u ∷ us) ∷ rs) ≡ q ∷ qs))
        pick true = (_, (_, refl))
        pick false = (_, (_, refl))

last-append : (rs : List (List Seen)) (r : List Seen) → last_of (rs ++ (r ∷ [])) ≡ r
last-append [] r = refl
last-append (q ∷ []) r = refl
last-append (q ∷ (p ∷ rs)) r = last-append (p ∷ rs) r

turns-append : (f : Bool) (vs : List Seen) (y : Seen) (ys : List Seen) → Uni f (y ∷ ys) → Turns (not f) (vs ++ (y ∷ ys))
turns-append f [] y [] u = u.0 ∙ sym (not-not f)
  where
    not-not : (b : Bool) → not (not b) ≡ b
    not-not true = refl
    not-not false = refl
turns-append f [] y (z ∷ ys) u = turns-append f [] z ys u.1
turns-append f (v ∷ []) y ys u = turns-append f [] y ys u
turns-append f (v ∷ (w ∷ vs)) y ys u = turns-append f (w ∷ vs) y ys u

runs-turned : (f : Bool) (vs : List Seen) (y : Seen) (ys : List Seen) → Turns f vs → Uni f (y ∷ ys) → runs (vs ++ (y ∷ ys)) ≡ runs vs ++ ((y ∷ ys) ∷ [])
runs-turned f [] y ys w u = ap runs (sym (append-nil (y ∷ ys))) ∙ run-first f y ys [] u tt
runs-turned f (v ∷ []) y ys w u = ap (ahead v) (runs-turned f [] y ys tt u) ∙ (rw (w, u.0, beq-turned f) refl)
runs-turned f (v ∷ (x ∷ vs)) y ys w u =
    let z = runs-some x vs in
    ap (ahead v) (runs-turned f (x ∷ vs) y ys w u)
    ∙ ap (λ (rs : List (List Seen)). ahead v (rs ++ ((y ∷ ys) ∷ []))) z.1.1
    ∙ ahead-append v z.0 z.1.0 ((y ∷ ys) ∷ [])
    ∙ ap (λ (rs : List (List Seen)). ahead v rs ++ ((y ∷ ys) ∷ [])) (sym z.1.1)

last-turned : (f : Bool) (vs : List Seen) (y : Seen) (ys : List Seen) → Turns f vs → Uni f (y ∷ ys) → last_of (runs (vs ++ (y ∷ ys))) ≡ y ∷ ys
last-turned f vs y ys w u = ap last_of (runs-turned f vs y ys w u) ∙ last-append (runs vs) (y ∷ ys)

-- ---- transfers in the list
taken_in-all : (ts : List (List ℕ)) → taken_in (map Call.transfer ts) ≡ length ts
taken_in-all [] = refl
taken_in-all (t ∷ ts) = let e : taken_in (map Call.transfer ts) ≡ length ts = taken_in-all ts in omega arith

map_more : (ts : List (List ℕ)) (t : List ℕ) → map Call.transfer (ts ++ (t ∷ [])) ≡ map Call.transfer ts ++ (Call.transfer t ∷ [])
map_more [] t = refl
map_more (u ∷ ts) t = ap (λ (l : List Call). Call.transfer u ∷ l) (map_more ts t)

events-more : (o : Opening) (ts : List (List ℕ)) (t : List ℕ) → events o (map Call.transfer (ts ++ (t ∷ []))) ≡ events o (map Call.transfer ts) ++ (event_by (reading_of o t) t ∷ [])
events-more o [] t = refl
events-more o (u ∷ ts) t = ap (λ (l : List Event). event_by (reading_of o u) u ∷ l) (events-more o ts t)

module _ (o : Opening) (old : o.kind ≡ Old) (eof : by_eof o ≡ true) (sizes : sizes_broken o ≡ false) (B : List ℕ) (room : o.frame ≤ length B) where
  payload-most : o.payload ≤ payload_most
  unfolding sizes_broken
  payload-most = (payload-sound o.payload (or-second (frame_size_broken o.frame) (payload_size_broken o.payload) sizes)).high

  abbrev start : At
  start = receiver o B

  abbrev xs : List Ask → List Offer
  xs ks = offers (fresh o) B ks

  -- after these calls, these transfers are taken and read so
  record Stands (ks : List Ask) (ts : List (List ℕ)) (vs : List Seen) : Type 0 where
    pub list : list_of o (xs ks) ≡ map Call.transfer ts
    pub seen : events o (map Call.transfer ts) ≡ map event_in vs
    pub plain : Plain vs

  no-hands : (r : Reading) (cs : List Call) → hands_for r o cs ≡ false
  no-hands Idle cs = refl
  no-hands (Unreadable k) cs = refl
  no-hands (Readable h) cs = rw eof refl

  last-is : (ts : List (List ℕ)) (vs : List Seen) → events o (map Call.transfer ts) ≡ map event_in vs → Plain vs → last_run o (map Call.transfer ts) ≡ last_of (runs vs)
  last-is ts vs e p = ap (λ (es : List Event). last_of (runs (readables false es))) e ∙ ap (λ (us : List Seen). last_of (runs us)) (read_plain vs p)

  module _ (ks : List Ask) (ts : List (List ℕ)) (vs : List Seen) (z : Stands ks ts vs) (few : length ts < taken_most) (t : List ℕ) (v : Seen) (short : length t ≤ o.payload)
      (reads : reading_of o t ≡ Readable v.header) (event : event_by (reading_of o t) t ≡ event_in v) (plain₁ : Plain (v ∷ [])) where
    abbrev at : At
    at = place start ks

    room-kept : o.frame ≤ length at.buffer
    room-kept = (kept-all o B ks room).room

    ok : refusal at.session (Offer.take at.buffer t) ≡ 0
    ok =
        no-input-stops.refusals o (xs ks) (Offer.take at.buffer t)
        ∙ (let l : length t ≤ transfer_most = omega (arith, payload-most) in
        rw (sizes, z.list, open-all o old eof ts, taken_in-all ts, ne_eqb (length ts) taken_most (λ (q : length ts ≡ taken_most). omega arith), le-ltb (length at.buffer) o.frame room-kept, le-ltb transfer_most (length t) l) refl)

    abbrev cs : List Call
    cs = map Call.transfer ts

    seen₁ : events o (map Call.transfer (ts ++ (t ∷ []))) ≡ map event_in (vs ++ (v ∷ []))
    seen₁ = events-more o ts t ∙ (λ i. z.seen i ++ (event i ∷ [])) ∙ sym (map-append vs (v ∷ []))

    last₁ : last_run o (with cs t) ≡ last_of (runs (vs ++ (v ∷ [])))
    last₁ = ap (last_run o) (sym (map_more ts t)) ∙ last-is (ts ++ (t ∷ [])) (vs ++ (v ∷ [])) seen₁ (plain-append vs (v ∷ []) z.plain plain₁)

    abbrev answer : Answer
    answer = record { ended = cond (goes_on v.header (last_of (runs vs))) None (turned_in o (last_of (runs vs))); fate = fate_on o (last_of (runs (vs ++ (v ∷ [])))) }

    -- what it answers
    outcome : (take_of at.session (length at.buffer) t).outcome ≡ Outcome.Taken answer
    outcome =
        let p : last_run o cs ≡ last_of (runs vs) = last-is ts vs z.seen z.plain in
        nothing-missing.answers o (xs ks) at.buffer t
        ∙ ap (λ (n : ℕ). refused_or n Outcome.Refused (outcome_of o (list_of o (xs ks)) t)) (sym (no-input-stops.refusals o (xs ks) (Offer.take at.buffer t)) ∙ ok)
        ∙ ap (λ (ds : List Call). outcome_of o ds t) z.list
        ∙ ap (λ (b : Bool). cond b (Outcome.Handed (out_of o (last_run o cs))) (Outcome.Taken (answer_of o cs t))) (no-hands (reading_of o t) cs)
        ∙ ap (λ (r : Reading). Outcome.Taken (answer_for r o cs t)) reads
        ∙ (λ i. Outcome.Taken (record { ended = cond (goes_on v.header (p i)) None (turned_in o (p i)); fate = fate_on o (last₁ i) }))

    -- and how it stands in the list
    stands : Stands (ks ++ (Ask.transfer t ∷ [])) (ts ++ (t ∷ [])) (vs ++ (v ∷ []))
    stands = record {
      list =
          ap (list_of o) (offers-more start ks (Ask.transfer t))
          ∙ sym (nothing-missing.list o (xs ks ++ (Offer.take at.buffer t ∷ [])))
          ∙ taken_more (xs ks) (Offer.take at.buffer t) (fresh o)
          ∙ ap (λ (n : ℕ). taken (fresh o) (xs ks) ++ unless n (call_by (take_of at.session (length at.buffer) t).outcome t) []) ok
          ∙ ap (λ (y : Outcome). taken (fresh o) (xs ks) ++ (call_by y t ∷ [])) outcome
          ∙ ap (λ (ds : List Call). ds ++ (Call.transfer t ∷ [])) (nothing-missing.list o (xs ks) ∙ z.list)
          ∙ sym (map_more ts t);
      seen = seen₁;
      plain = plain-append vs (v ∷ []) z.plain plain₁;
    }

    -- where it delivers, the buffer's first bytes are the frame's data
    handed-whole : (d : Delivery) → answer.fate ≡ Fate.Delivered d → take d.len (buffer_of at.session at.buffer t) ≡ data_of (frame_of o (last_of (runs (vs ++ (v ∷ [])))))
    handed-whole d e =
        (frames-whole.delivered o B ks room t answer false d outcome e).payload
        ∙ ap (λ (r : List Seen). data_of (frame_of o r)) (ap (λ (ds : List Call). last_run o (with ds t)) z.list ∙ last₁)

  -- ---- the fate of a transfer, by the run that it is the last of
  abbrev Opens : List Seen → Type 0
  Opens [] = Unit {0}
  Opens (u ∷ us) = (closes o u ≡ false) × Opens us

  stray-open : (us : List Seen) → Opens us → stray_of o us ≡ []
  stray-open [] p = refl
  stray-open (u ∷ us) p = rw p.0 (stray-open us p.1)

  frame-open : (us : List Seen) → Opens us → frame_of o us ≡ us
  frame-open [] p = refl
  frame-open (u ∷ us) p = rw p.0 (ap (λ (l : List Seen). u ∷ l) (frame-open us p.1))

  closed-open : (us : List Seen) → Opens us → closed o us ≡ false
  closed-open [] p = refl
  closed-open (u ∷ us) p = rw p.0 (closed-open us p.1)

  opens-more : (us : List Seen) (v : Seen) → Opens us → closes o v ≡ false → Opens (us ++ (v ∷ []))
  opens-more [] v p q = (q, tt)
  opens-more (u ∷ us) v p q = (p.0, opens-more us v p.1 q)

  uni-more : (f : Bool) (us : List Seen) (v : Seen) → Uni f us → v.header.fid ≡ f → Uni f (us ++ (v ∷ []))
  uni-more f [] v p q = (q, tt)
  uni-more f (u ∷ us) v p q = (p.0, uni-more f us v p.1 q)

  kept-fate : (r : List Seen) → Opens r → fate_on o r ≡ Fate.Kept
  kept-fate r p = rw (stray-open r p, frame-open r p, closed-open r p, eof) refl

  fated-one : (r : List Seen) (l : List ℕ) (s : Stamp) → frame_of o r ≡ r → closed o r ≡ true → fault o r ≡ None → first_stamp r ≡ s → last_layer r ≡ None → still_of r ≡ false → data_of r ≡ l → stray_of o r ≡ [] → 1 ≤ length l
      → fate_on o r ≡ Fate.Delivered (delivery_of (record { load = l; stamp = s }))
  fated-one r l s e c q a y b d t n = rw (t, e, c, q, a, y, b, d, ne_eqb (length l) 0 (λ (z : length l ≡ 0). omega arith)) refl

  -- ---- what is heard of calls, as far as g tells
  module _ {A : Type 0} (g : Said → List ℕ → A) where
    abbrev tell : Heard → A
    tell h = g h.said h.handed

    abbrev kept : A
    kept = g (said_with Fate.Kept) []

    abbrev last : Frame → A
    last f = g (said_last f) f.load

    -- none is refused, so much is told of them, and they stand in the list
    abbrev Good : At → List (List ℕ) → List A → Type 0
    Good x ts told =
        NoneRefused x (map Ask.transfer ts)
        × (map tell (heard x (map Ask.transfer ts)) ≡ told)
        × (taken x.session (offers x.session x.buffer (map Ask.transfer ts)) ≡ map Call.transfer ts)

    good-step : (ks : List Ask) (t : List ℕ) (rest : List (List ℕ)) (a : A) (told : List A) → refusal (place start ks).session (Offer.take (place start ks).buffer t) ≡ 0
        → tell (hears (place start ks) (Ask.transfer t)) ≡ a → call_of (place start ks).session (Offer.take (place start ks).buffer t) ≡ Call.transfer t
        → Good (place start (ks ++ (Ask.transfer t ∷ []))) rest told → Good (place start ks) (t ∷ rest) (a ∷ told)
    good-step ks t rest a told ok e c q =
        let n = onward-is start ks (Ask.transfer t) in
        let m : map tell (heard (onward (place start ks) (Ask.transfer t)) (map Ask.transfer rest)) ≡ told = ap (λ (x : At). map tell (heard x (map Ask.transfer rest))) n ∙ q.1 in
        let k : List Call = map Call.transfer rest in
        let y = ap (λ (x : At). taken x.session (offers x.session x.buffer (map Ask.transfer rest))) n ∙ q.2 in (
          (ok, subst (λ (x : At). NoneRefused x (map Ask.transfer rest)) (sym n) q.0),
          λ i. e i ∷ m i,
          ap (λ (j : ℕ). unless j (call_of (place start ks).session (Offer.take (place start ks).buffer t))
              (taken (onward (place start ks) (Ask.transfer t)).session
              (offers (onward (place start ks) (Ask.transfer t)).session (onward (place start ks) (Ask.transfer t)).buffer (map Ask.transfer rest)))) ok
              ∙ (λ i. c i ∷ y i),
        )

  module _ (fid : Bool) (f : Frame) (w : Sendable o f) (vs : List Seen) (turns : Turns fid vs)
      (calm : (h : Header) → h.fid ≡ fid → cond (goes_on h (last_of (runs vs))) None (turned_in o (last_of (runs vs))) ≡ None) where
    abbrev s : Stamp
    s = f.stamp

    abbrev p : ℕ
    p = o.payload - size_of f.stamp

    abbrev whole₀ : List Seen
    whole₀ = seen_in o.payload fid f

    last-here : (us : List Seen) (v : Seen) → Uni fid (us ++ (v ∷ [])) → last_of (runs ((vs ++ us) ++ (v ∷ []))) ≡ us ++ (v ∷ [])
    last-here us v u = ap (λ (l : List Seen). last_of (runs l)) (append_assoc vs us (v ∷ [])) ∙ go us u
      where
        go : (us : List Seen) → Uni fid (us ++ (v ∷ [])) → last_of (runs (vs ++ (us ++ (v ∷ [])))) ≡ us ++ (v ∷ [])
        go [] u = last-turned fid vs v [] turns u
        go (y ∷ us) u = last-turned fid vs y (us ++ (v ∷ [])) turns u

    none-ended : (us : List Seen) → Uni fid us → (h : Header) → h.fid ≡ fid → cond (goes_on h (last_of (runs (vs ++ us)))) None (turned_in o (last_of (runs (vs ++ us)))) ≡ None
    none-ended [] u h e = rw (append-nil vs) (calm h e)
    none-ended (y ∷ us) u h e = rw (last-turned fid vs y us turns u, u.0, e, beq-self fid) refl

    frame-fate : fate_on o whole₀ ≡ Fate.Delivered (delivery_of f)
    frame-fate = go f.load w.some w.few w.above
      where
        go : (l : List ℕ) → 1 ≤ length l → length l ≤ o.frame → size_of f.stamp < o.payload → fate_on o (seens (length l) p fid s l) ≡ Fate.Delivered (delivery_of (record { load = l; stamp = f.stamp }))
        go [] a b c = absurd (omega arith)
        go (x ∷ l) a b c =
            let g : 1 ≤ o.payload - size_of f.stamp = omega arith in
            let r : List Seen = seens (length (x ∷ l)) p fid s (x ∷ l) in
            let q : fault o r ≡ None = ap (λ (z : Stamp). fault_from o z false 0 r) (stamp-first o old eof p fid s (length l) x l) ∙ sound-all o old eof p fid s (length (x ∷ l)) 0 (x ∷ l) (omega arith) in
            fated-one r (x ∷ l) s (frame-all o old eof p fid s (length (x ∷ l)) (x ∷ l)) (closed_all o old eof p fid s (length (x ∷ l)) (x ∷ l) a (omega arith) g) q
            (stamp-first o old eof p fid s (length l) x l) (layer-none o old eof p fid s (length (x ∷ l)) (x ∷ l)) refl (data-all o old eof p fid s (length (x ∷ l)) (x ∷ l) (omega arith) g)
            (stray-none o old eof p fid s (length (x ∷ l)) (x ∷ l)) a

    frame-data : data_of (frame_of o whole₀) ≡ f.load
    frame-data =
        let c : size_of f.stamp < o.payload = w.above in
        ap data_of (frame-all o old eof p fid s (length f.load) f.load) ∙ data-all o old eof p fid s (length f.load) f.load (omega arith) (omega arith)

    cut-none : (k : ℕ) → cut_by k p fid s [] ≡ []
    cut-none zero = refl
    cut-none (suc k) = refl

    seens-none : (k : ℕ) → seens k p fid s [] ≡ []
    seens-none zero = refl
    seens-none (suc k) = refl

    module _ {A : Type 0} (g : Said → List ℕ → A) where
      lastly-more : (t : List ℕ) (k : ℕ) (m : List ℕ) → 1 ≤ length m → length m ≤ k → lastly (kept g) (last g f) (t ∷ cut_by k p fid s m) ≡ kept g ∷ lastly (kept g) (last g f) (cut_by k p fid s m)
      lastly-more t zero m a b = absurd (omega arith)
      lastly-more t (suc k) [] a b = absurd (omega arith)
      lastly-more t (suc k) (y ∷ m) a b = refl

      -- the transfers of the frame that are left, and then all that follows
      abbrev Goes : ℕ → Type 0
      Goes k = (l : List ℕ) (ks : List Ask) (ts : List (List ℕ)) (us : List Seen) → Stands ks ts (vs ++ us) → Opens us → Uni fid us → us ++ seens k p fid s l ≡ whole₀ → length l ≤ k → 1 ≤ length l
          → (rest : List (List ℕ)) → length ts + (length (cut_by k p fid s l) + length rest) ≤ taken_most → (told : List A)
          → ((ks₁ : List Ask) (ts₁ : List (List ℕ)) → Stands ks₁ ts₁ (vs ++ whole₀) → length ts₁ + length rest ≤ taken_most → Good g (place start ks₁) rest told)
          → Good g (place start ks) (cut_by k p fid s l ++ rest) (lastly (kept g) (last g f) (cut_by k p fid s l) ++ told)

      goes-more : (k : ℕ) → Goes k → Goes (suc k)
      goes-more k more [] ks ts us z q u e b c rest lim told then = absurd (omega arith)
      goes-more k more (x ∷ l) ks ts us z q u e b c rest lim told then = go (drop p (x ∷ l)) (let n : length (drop p (x ∷ l)) ≡ length (x ∷ l) - p = length-drop p (x ∷ l) in omega (arith, w.above)) e lim
        where
          d : List ℕ
          d = take p (x ∷ l)

          fits : size_of f.stamp + length (take p (x ∷ l)) ≤ o.payload
          fits = let n : length (take p (x ∷ l)) ≡ min p (length (x ∷ l)) = length-take p (x ∷ l) in omega (arith, w.above)

          t : Bool → List ℕ
          t b = written fid b f.stamp ++ take p (x ∷ l)

          v : Bool → Seen
          v b = seen_of fid b f.stamp (take p (x ∷ l))

          short : (b : Bool) → length (t b) ≤ o.payload
          short b = let n : length (t b) ≡ size_of f.stamp + length (take p (x ∷ l)) = part_length fid b f.stamp p (x ∷ l) in omega (arith, fits)

          reads : (b : Bool) → reading_of o (t b) ≡ Readable (v b).header
          reads b = reads-back o fid b f.stamp (take p (x ∷ l)) old w.stamped fits

          event : (b : Bool) → event_by (reading_of o (t b)) (t b) ≡ event_in (v b)
          event b = one-event o old eof fid b f.stamp (take p (x ∷ l)) w.stamped fits

          go : (m : List ℕ) → length m ≤ k → us ++ (v (is_nil m) ∷ seens k p fid s m) ≡ whole₀ → length ts + (suc (length (cut_by k p fid s m)) + length rest) ≤ taken_most
              → Good g (place start ks) (t (is_nil m) ∷ (cut_by k p fid s m ++ rest)) (lastly (kept g) (last g f) (t (is_nil m) ∷ cut_by k p fid s m) ++ told)
          go [] b e lim =
              let none : length (cut_by k p fid s []) ≡ 0 = ap length (cut-none k) in
              let few : length ts < taken_most = omega arith in
              let e₁ : us ++ (v true ∷ []) ≡ whole₀ = ap (λ (r : List Seen). us ++ (v true ∷ r)) (sym (seens-none k)) ∙ e in
              let st = stands ks ts (vs ++ us) z few (t true) (v true) (short true) (reads true) (event true) (refl, tt) in
              let un : Uni fid (us ++ (v true ∷ [])) = uni-more fid us (v true) u refl in
              let run : last_of (runs ((vs ++ us) ++ (v true ∷ []))) ≡ whole₀ = last-here us (v true) un ∙ e₁ in
              let fate : fate_on o (last_of (runs ((vs ++ us) ++ (v true ∷ [])))) ≡ Fate.Delivered (delivery_of f) = ap (fate_on o) run ∙ frame-fate in
              let out = outcome ks ts (vs ++ us) z few (t true) (v true) (short true) (reads true) (event true) (refl, tt)
              ∙ (λ i. Outcome.Taken (record { ended = none-ended us u (v true).header refl i; fate = fate i })) in
              let bytes : take (length f.load) (buffer_of (place start ks).session (place start ks).buffer (t true)) ≡ f.load =
              handed-whole ks ts (vs ++ us) z few (t true) (v true) (short true) (reads true) (event true) (refl, tt) (delivery_of f) fate ∙ ap (λ (r : List Seen). data_of (frame_of o r)) run ∙ frame-data in
              let heard₁ : tell g (hears (place start ks) (Ask.transfer (t true))) ≡ last g f =
              ap (λ (r : Outcome). g (Said.took r) (take (out_length (Said.took r)) (buffer_of (place start ks).session (place start ks).buffer (t true)))) out ∙ ap (g (said_last f)) bytes in
              let st₁ : Stands (ks ++ (Ask.transfer (t true) ∷ [])) (ts ++ (t true ∷ [])) (vs ++ whole₀) = subst (Stands _ _) (append_assoc vs us (v true ∷ []) ∙ ap (λ (r : List Seen). vs ++ r) e₁) st in
              let n : length (ts ++ (t true ∷ [])) ≡ length ts + 1 = length-append ts (t true ∷ []) in
              rw (cut-none k)
              (good-step g ks (t true) rest (last g f) told
              (ok ks ts (vs ++ us) z few (t true) (v true) (short true) (reads true) (event true) (refl, tt)) heard₁ (ap (λ (r : Outcome). call_by r (t true)) out) (then (ks ++ (Ask.transfer (t true) ∷ [])) (ts ++ (t true ∷ [])) st₁ (omega arith)))
          go (y ∷ m) b e lim =
              let few : length ts < taken_most = omega arith in
              let st = stands ks ts (vs ++ us) z few (t false) (v false) (short false) (reads false) (event false) (refl, tt) in
              let un : Uni fid (us ++ (v false ∷ [])) = uni-more fid us (v false) u refl in
              let op : Opens (us ++ (v false ∷ [])) = opens-more us (v false) q (last-closes o old eof p fid s false (take p (x ∷ l))) in
              let fate : fate_on o (last_of (runs ((vs ++ us) ++ (v false ∷ [])))) ≡ Fate.Kept = ap (fate_on o) (last-here us (v false) un) ∙ kept-fate (us ++ (v false ∷ [])) op in
              let out = outcome ks ts (vs ++ us) z few (t false) (v false) (short false) (reads false) (event false) (refl, tt)
              ∙ (λ i. Outcome.Taken (record { ended = none-ended us u (v false).header refl i; fate = fate i })) in
              let heard₁ : tell g (hears (place start ks) (Ask.transfer (t false))) ≡ kept g =
              ap (λ (r : Outcome). g (Said.took r) (take (out_length (Said.took r)) (buffer_of (place start ks).session (place start ks).buffer (t false)))) out in
              let st₁ : Stands (ks ++ (Ask.transfer (t false) ∷ [])) (ts ++ (t false ∷ [])) (vs ++ (us ++ (v false ∷ []))) = subst (Stands _ _) (append_assoc vs us (v false ∷ [])) st in
              let n : length (ts ++ (t false ∷ [])) ≡ length ts + 1 = length-append ts (t false ∷ []) in
              let rec = more (y ∷ m) (ks ++ (Ask.transfer (t false) ∷ [])) (ts ++ (t false ∷ [])) (us ++ (v false ∷ [])) st₁ op un (append_assoc us (v false ∷ []) (seens k p fid s (y ∷ m)) ∙ e) b (omega arith) rest (omega arith) told then in
              rw (lastly-more (t false) k (y ∷ m) (omega arith) b)
              (good-step g ks (t false) (cut_by k p fid s (y ∷ m) ++ rest) (kept g) (lastly (kept g) (last g f) (cut_by k p fid s (y ∷ m)) ++ told)
              (ok ks ts (vs ++ us) z few (t false) (v false) (short false) (reads false) (event false) (refl, tt)) heard₁ (ap (λ (r : Outcome). call_by r (t false)) out) rec)

      goes-all : (k : ℕ) → Goes k
      goes-all zero = λ l ks ts us z q u e b c rest lim told then. absurd (omega arith)
      goes-all (suc k) = goes-more k (goes-all k)

  -- ---- frame after frame
  module _ {A : Type 0} (g : Said → List ℕ → A) where
    abbrev Calm : Bool → List Seen → Type 0
    Calm fid vs = (h : Header) → h.fid ≡ fid → cond (goes_on h (last_of (runs vs))) None (turned_in o (last_of (runs vs))) ≡ None

    turned-calm : (fid : Bool) (f : Frame) (vs : List Seen) → Sendable o f → Turns fid vs → Turns (not fid) (vs ++ seen_in o.payload fid f) × Calm (not fid) (vs ++ seen_in o.payload fid f)
    turned-calm fid f vs w turns =
        let z = seen-some o old eof fid f w in
        let n : Uni fid (z.0 ∷ z.1.0) = subst (Uni fid) z.1.1.0 (uni-seens (length f.load) (o.payload - size_of f.stamp) fid f.stamp f.load) in
        let above : size_of f.stamp < o.payload = w.above in
        let c : closed o (frame_of o (z.0 ∷ z.1.0)) ≡ true =
        ap (λ (r : List Seen). closed o (frame_of o r)) (sym z.1.1.0)
        ∙ ap (closed o) (frame-all o old eof (o.payload - size_of f.stamp) fid f.stamp (length f.load) f.load)
        ∙ closed_all o old eof (o.payload - size_of f.stamp) fid f.stamp (length f.load) f.load w.some (omega arith) (omega arith) in
        rw z.1.1.0 (
          turns-append fid vs z.0 z.1.0 n,
          λ h e. rw (last-turned fid vs z.0 z.1.0 turns n, n.0, e, beq-not fid, c) refl,
        )

    all-good : (fs : List Frame) (fid : Bool) (ks : List Ask) (ts : List (List ℕ)) (vs : List Seen) → AllSendable o fs → Stands ks ts vs → Turns fid vs → Calm fid vs
        → length ts + length (sent_of o.payload fid fs) ≤ taken_most → Good g (place start ks) (sent_of o.payload fid fs) (each_frame (kept g) (last g) o.payload fid fs)
    all-good [] fid ks ts vs w z turns calm lim = (tt, refl, refl)
    all-good (f ∷ fs) fid ks ts vs w z turns calm lim =
        let n : length (cut o.payload fid f ++ sent_of o.payload (not fid) fs) ≡ length (cut o.payload fid f) + length (sent_of o.payload (not fid) fs) = length-append (cut o.payload fid f) (sent_of o.payload (not fid) fs) in
        let t = turned-calm fid f vs w.0 turns in
        goes-all fid f w.0 vs turns calm g (length f.load) f.load ks ts [] (subst (Stands ks ts) (sym (append-nil vs)) z) tt tt refl (omega arith) w.0.some (sent_of o.payload (not fid) fs) (omega arith)
        (each_frame (kept g) (last g) o.payload (not fid) fs)
        (λ ks₁ ts₁ st lim₁. all-good fs (not fid) ks₁ ts₁ (vs ++ seen_in o.payload fid f) w.1 st t.0 t.1 lim₁)

    pub arrive : (fs : List Frame) → AllSendable o fs → length (sent_of o.payload false fs) ≤ taken_most
        → Good g (receiver o B) (sent_of o.payload false fs) (each_frame (kept g) (last g) o.payload false fs)
    arrive fs w lim = all-good fs false [] [] [] w (record { list = refl; seen = refl; plain = tt }) tt (λ h e. refl) (omega arith)
