-- With one buffer that nobody else writes, a frame handed out, delivered or a still, is whole: the buffer's first bytes are its payload bytes, in order.
use Rattle.std.specs.Prelude.{None, Some}
use Rattle.session_rules.specs.Options.{Fault}
use Prim.Native.Nat.{ℕ, zero, suc, ◌≤◌}
use mathlib.Core.Path.{◌≡◌, refl, sym, ◌∙◌, ap, subst}
use mathlib.Core.Bool.{Bool, true, false, cond, true≢false}
use mathlib.Core.List.{List, [], ◌∷◌, ◌++◌, append_assoc, append-nil}
use lib.ListN.{length, drop}
use lib.Dec.{eqb}
use Rattle.sizes.specs.declared.Opening.{Opening}
use Rattle.session_rules.specs.declared.Header.{Header}
use Rattle.session_rules.specs.declared.Reading.{Reading}
use Rattle.session_rules.specs.declared.Reading.TheVariants.{Idle, Unreadable, Readable}
use Rattle.session_rules.specs.Transfer.{reading_of}
use Rattle.session_rules.specs.declared.Reason.TheVariants.{Empty}
use Rattle.session_rules.specs.declared.Delivery.{Delivery}
use Rattle.session_rules.specs.declared.Fate.{Fate}
use Rattle.session_rules.specs.declared.HandOut.{HandOut}
use Rattle.session_rules.specs.Track.{handing}
use Rattle.session_rules.specs.declared.Answer.{Answer}
use Rattle.session_rules.specs.Entry.{Entry}
use Rattle.session_rules.specs.declared.Session.{Session}
use Rattle.session_rules.specs.declared.Outcome.{Outcome}
use Rattle.session_rules.specs.Session.{fresh, hands_out, take_of, buffer_by, buffer_of}
use Rattle.session_rules.specs.Call.{Ask, Call}
use Rattle.session_rules.specs.Calls.{Offer, refusal, next, after, call_of, unless, taken, offer_with, buffer_next, offers, buffer_after}
use Rattle.books.specs.Rule.{Event, idle, unreadable, missing, readable, mark, event_by, events, is_open, Seen, frame_of, stray_of, closed, complete, data_of, first_stamp, last_layer, still_of, fault, handed_out, verdict}
use Rattle.books.specs.Answer.{last_run, fate_in, fate_by, fate_on, with, answer_for, answer_of, hands, out_of, written_for}
use Rattle.books.specs.HandedOut.{HandedWhole}
use Rattle.books.specs.Demands.{Whole}
use Rattle.books.proofs.Answers.{taken-answer, same_answer, handed-answer, taken_more, heard-more}
use Rattle.books.proofs.Taken.{listed}
use Rattle.books.proofs.Grown.{frame-whole}
use Rattle.books.proofs.Tracked.{complete-last}
use Rattle.books.proofs.HandedOut.{handed_out_lem}
use Rattle.books.proofs.OneMore.{last_in, pending, last_more}
use Rattle.books.proofs.Held.{Held, Left, grown-left, left-held, spoilt-held, marked-held}
use Rattle.books.proofs.ByList.{events-more, still_open, hands-as, transfer-answers, transfer-writes}

after_more : (xs : List Offer) (x : Offer) (s : Session) → after s (xs ++ (x ∷ [])) ≡ next (after s xs) x
after_more [] x s = refl
after_more (y ∷ xs) x s = after_more xs x (next s y)

not-open : (cs : List Call) → is_open (cs ++ (Call.close ∷ [])) ≡ false
not-open [] = refl
not-open (Call.transfer t ∷ cs) = not-open cs
not-open (Call.lost ∷ cs) = not-open cs
not-open (Call.handed ∷ cs) = not-open cs
not-open (Call.close ∷ cs) = refl

buffer-refused : (s : Session) (B : List ℕ) (c : Ask) (k : ℕ) → refusal s (offer_with B c) ≡ suc k → buffer_next s B c ≡ B
unfolding buffer_of
buffer-refused s B (Ask.transfer t) k e = ap (λ (n : ℕ). buffer_by n s B t) e
buffer-refused s B Ask.lost k e = refl
buffer-refused s B Ask.close k e = refl

-- ---- a fate that hands a frame out
record Delivers (o : Opening) (r : List Seen) (b : Bool) (d : Delivery) : Type 0 where
  pub alone : stray_of o r ≡ []
  pub ended : closed o (frame_of o r) ≡ true
  pub sound : fault o (frame_of o r) ≡ None
  pub bit : still_of (frame_of o r) ≡ b
  pub size : d.len ≡ length (data_of (frame_of o r))
  pub stamp : d.stamp ≡ first_stamp (frame_of o r)
  pub layer : d.layer ≡ last_layer (frame_of o r)

module _ (o : Opening) where
  -- ---- the rule alone: what a call taken leaves in the buffer
  module _ (cs : List Call) (open₀ : is_open cs ≡ true) (B : List ℕ) (held : Held o (last_run o cs) B) (room : o.frame ≤ length B) where
    last-with : (t : List ℕ) (e : Event) → event_by (reading_of o t) t ≡ e → last_run o (with cs t) ≡ last_in (events o cs ++ (e ∷ []))
    last-with t e q = ap last_in (events-more o cs (Call.transfer t) open₀ ∙ ap (λ (x : Event). events o cs ++ (x ∷ [])) q)

    read_left : (t : List ℕ) (h : Header) → reading_of o t ≡ Readable h → Left o (last_run o (with cs t)) (written_for (Readable h) o cs t B)
    read_left t h q =
        rw (last-with t (readable h (drop h.len t)) (ap (λ (r : Reading). event_by r t) q) ∙ last_more (readable h (drop h.len t)) (events o cs))
        (grown-left o h (drop h.len t) (pending false (events o cs)) B room (last_run o cs) held)

    record Keeps (ds : List Call) (A : List ℕ) : Type 0 where
      pub held₀ : Held o (last_run o ds) A
      pub room₀ : o.frame ≤ length A

    transfer-keeps : (t : List ℕ) (r : Reading) → reading_of o t ≡ r → Keeps (with cs t) (written_for r o cs t B)
    transfer-keeps t Idle q = record {
      held₀ = rw (last-with t idle (ap (λ (r : Reading). event_by r t) q) ∙ last_more idle (events o cs)) held;
      room₀ = room;
    }
    transfer-keeps t (Unreadable k) q = record {
      held₀ = rw (last-with t (unreadable (length t)) (ap (λ (r : Reading). event_by r t) q) ∙ last_more (unreadable (length t)) (events o cs)) (spoilt-held o (last_run o cs) B held);
      room₀ = room;
    }
    transfer-keeps t (Readable h) q =
        let l = read_left t h q in
        record { held₀ = left-held o (last_run o (with cs t)) (written_for (Readable h) o cs t B) l; room₀ = l.room }

    handed-keeps : Keeps (cs ++ (Call.handed ∷ [])) B
    handed-keeps = record {
      held₀ = rw (ap last_in (events-more o cs Call.handed open₀) ∙ last_more mark (events o cs)) (marked-held o (last_run o cs) B);
      room₀ = room;
    }

    lost-keeps : Keeps (cs ++ (Call.lost ∷ [])) B
    lost-keeps = record {
      held₀ = rw (ap last_in (events-more o cs Call.lost open₀) ∙ last_more missing (events o cs)) (spoilt-held o (last_run o cs) B held);
      room₀ = room;
    }

  -- ---- over the calls: while the session is open, the frame under way stands in the buffer
  pub record Kept (xs : List Offer) (B : List ℕ) : Type 0 where
    pub held : is_open (taken (fresh o) xs) ≡ true → Held o (last_run o (taken (fresh o) xs)) B
    pub room : o.frame ≤ length B

  module _ (xs : List Offer) (B : List ℕ) (k : Kept xs B) where
    abbrev heard : List Call
    heard = taken (fresh o) xs

    kept-as : (x : Offer) (ds : List Call) (A : List ℕ) → taken (fresh o) (xs ++ (x ∷ [])) ≡ ds → (is_open ds ≡ true → Held o (last_run o ds) A) → o.frame ≤ length A → Kept (xs ++ (x ∷ [])) A
    kept-as x ds A e h room = record { held = subst (λ (l : List Call). is_open l ≡ true → Held o (last_run o l) A) (sym e) h; room = room }

    abbrev now₀ : Session
    now₀ = after (fresh o) xs

    -- a transfer: taken, or a frame is handed out and no byte changes
    kept-met : (t : List ℕ) (c : Bool) → refusal now₀ (Offer.take B t) ≡ 0 → hands_out now₀ t ≡ c → Kept (xs ++ (Offer.take B t ∷ [])) (buffer_of now₀ B t)
    kept-met t true ok h =
        let p = still_open o xs (Offer.take B t) ok in
        let z = handed-keeps heard p B (k.held p) k.room in
        rw (transfer-writes o xs B t ok, ← hands-as o xs B t ok, h)
        (kept-as (Offer.take B t) (heard ++ (Call.handed ∷ [])) B (heard-more o xs (Offer.take B t) Call.handed ok (listed now₀ B t true ok h)) (λ u. z.held₀) z.room₀)
    kept-met t false ok h =
        let p = still_open o xs (Offer.take B t) ok in
        let z = transfer-keeps heard p B (k.held p) k.room t (reading_of o t) refl in
        rw (transfer-writes o xs B t ok, ← hands-as o xs B t ok, h)
        (kept-as (Offer.take B t) (with heard t) (written_for (reading_of o t) o heard t B) (heard-more o xs (Offer.take B t) (Call.transfer t) ok (listed now₀ B t false ok h)) (λ u. z.held₀) z.room₀)

    kept-taken : (c : Ask) → refusal now₀ (offer_with B c) ≡ 0 → Kept (xs ++ (offer_with B c ∷ [])) (buffer_next now₀ B c)
    kept-taken (Ask.transfer t) ok = kept-met t (hands_out now₀ t) ok refl
    kept-taken Ask.lost ok =
        let p = still_open o xs Offer.lost ok in
        kept-as Offer.lost (heard ++ (Call.lost ∷ [])) B (heard-more o xs Offer.lost Call.lost ok refl) (λ u. (lost-keeps heard p B (k.held p) k.room).held₀) k.room
    kept-taken Ask.close ok =
        kept-as Offer.close (heard ++ (Call.close ∷ [])) B (heard-more o xs Offer.close Call.close ok refl) (λ u. absurd (true≢false (sym u ∙ not-open heard))) k.room

    kept_next : (c : Ask) → Kept (xs ++ (offer_with B c ∷ [])) (buffer_next now₀ B c)
    kept_next c = go (refusal now₀ (offer_with B c)) refl
      where
        x : Offer
        x = offer_with B c

        go : (n : ℕ) → refusal now₀ x ≡ n → Kept (xs ++ (x ∷ [])) (buffer_next now₀ B c)
        go zero e = kept-taken c e
        go (suc n) e =
            rw (buffer-refused now₀ B c n e)
            (kept-as x heard B (taken_more xs x (fresh o) ∙ ap (λ (m : ℕ). heard ++ unless m (call_of now₀ x) []) e ∙ append-nil heard) k.held k.room)

  kept_from : (ks : List Ask) (xs : List Offer) (B : List ℕ) → Kept xs B → Kept (xs ++ offers (after (fresh o) xs) B ks) (buffer_after (after (fresh o) xs) B ks)
  kept_from [] xs B k = rw (append-nil xs) k
  kept_from (c ∷ ks) xs B k =
      let x : Offer = offer_with B c in
      let s : Session = after (fresh o) xs in
      subst (λ (l : List Offer). Kept l (buffer_after (next s x) (buffer_next s B c) ks)) (append_assoc xs (x ∷ []) (offers (next s x) (buffer_next s B c) ks))
      (subst (λ (r : Session). Kept ((xs ++ (x ∷ [])) ++ offers r (buffer_next s B c) ks) (buffer_after r (buffer_next s B c) ks)) (after_more xs x (fresh o)) (kept_from ks (xs ++ (x ∷ [])) (buffer_next s B c) (kept_next xs B k c)))

  pub kept-all : (B : List ℕ) (ks : List Ask) → o.frame ≤ length B → Kept (offers (fresh o) B ks) (buffer_after (fresh o) B ks)
  kept-all B ks room = kept_from ks [] B (record { held = λ e c f. refl; room = room })

-- ---- a frame handed out
abbrev is_handed : Fate → Bool
is_handed (Fate.Delivered d) = true
is_handed (Fate.Still d) = true
is_handed Fate.Idle = false
is_handed Fate.Kept = false
is_handed Fate.Stray = false
is_handed (Fate.Dropped w) = false
is_handed (Fate.Unreadable k) = false

handed : (b : Bool) (d : Delivery) → is_handed (handing b d) ≡ true
handed true d = refl
handed false d = refl

not-handed : (f : Fate) (b : Bool) (d : Delivery) → is_handed f ≡ false → f ≡ handing b d → ⊥
not-handed f b d e q = true≢false (sym (handed b d) ∙ sym (ap is_handed q) ∙ e)

-- which bit, and which delivery
abbrev is_still : Fate → Bool
is_still (Fate.Still d) = true
is_still (Fate.Delivered d) = false
is_still Fate.Idle = false
is_still Fate.Kept = false
is_still Fate.Stray = false
is_still (Fate.Dropped w) = false
is_still (Fate.Unreadable k) = false

handing-bit : (b : Bool) (d : Delivery) → is_still (handing b d) ≡ b
handing-bit true d = refl
handing-bit false d = refl

same_bit : (b c : Bool) (x d : Delivery) → handing b x ≡ handing c d → b ≡ c
same_bit b c x d e = sym (handing-bit b x) ∙ ap is_still e ∙ handing-bit c d

same-delivery : (b : Bool) (x d : Delivery) → handing b x ≡ handing b d → x ≡ d
same-delivery true x d e = cc
same-delivery false x d e = cc

fate-handed : (b : Bool) (d : Delivery) → fate_in (handed_out b d) ≡ handing b d
fate-handed true d = refl
fate-handed false d = refl

delivers : (o : Opening) (r : List Seen) (b : Bool) (d : Delivery) → fate_on o r ≡ handing b d → Delivers o r b d
delivers o r b d = go (stray_of o r) refl (complete o true (frame_of o r)) refl (fault o (frame_of o r)) refl
  where
    x : Delivery
    x = record { len = length (data_of (frame_of o r)); stamp = first_stamp (frame_of o r); layer = last_layer (frame_of o r) }

    k : Bool
    k = still_of (frame_of o r)

    go : (ts : List Seen) → stray_of o r ≡ ts → (c : Bool) → complete o true (frame_of o r) ≡ c → (q : Fault) → fault o (frame_of o r) ≡ q
        → fate_by ts (verdict true c q x.stamp x.layer k x.len) ≡ handing b d → Delivers o r b d
    go (t ∷ ts) u c v q w e = absurd (not-handed Fate.Stray b d refl e)
    go [] u false v q w e = absurd (not-handed Fate.Kept b d refl e)
    go [] u true v (Some y) w e = absurd (not-handed (Fate.Dropped y) b d refl e)
    go [] u true v None w e = full (eqb x.len 0) e
      where
        full : (c : Bool) → fate_in (cond c (Entry.Dropped Empty x.len) (handed_out k x)) ≡ handing b d → Delivers o r b d
        full true f = absurd (not-handed (Fate.Dropped Empty) b d refl f)
        full false f =
            let g : handing k x ≡ handing b d = sym (fate-handed k x) ∙ f in
            let i : k ≡ b = same_bit k b x d g in
            let z : x ≡ d = same-delivery b x d (ap (λ (c : Bool). handing c x) (sym i) ∙ g) in
            record {
              alone = u;
              ended = sym (complete-last o (frame_of o r)) ∙ v;
              sound = w;
              bit = i;
              size = ap (λ (y : Delivery). y.len) (sym z);
              stamp = ap (λ (y : Delivery). y.stamp) (sym z);
              layer = ap (λ (y : Delivery). y.layer) (sym z);
            }

module _ (o : Opening) (B : List ℕ) (ks : List Ask) (room : o.frame ≤ length B) where
  abbrev pub calls : List Offer
  calls = offers (fresh o) B ks

  abbrev pub buffer : List ℕ
  buffer = buffer_after (fresh o) B ks

  abbrev cs : List Call
  cs = taken (fresh o) calls

  whole_by : (t : List ℕ) (b : Bool) (d : Delivery) → is_open cs ≡ true → (r : Reading) → reading_of o t ≡ r → (answer_for r o cs t).fate ≡ handing b d
      → Whole o (with cs t) b d (written_for r o cs t buffer)
  whole_by t b d p Idle q f = absurd (not-handed Fate.Idle b d refl f)
  whole_by t b d p (Unreadable k) q f = absurd (not-handed (Fate.Unreadable k) b d refl f)
  whole_by t b d p (Readable h) q f =
      let k = kept-all o B ks room in
      let w = delivers o (last_run o (with cs t)) b d f in
      let l = read_left o cs p buffer (k.held p) k.room t h q in
      record {
        ended = w.ended;
        sound = w.sound;
        alone = w.alone;
        bit = w.bit;
        payload = rw w.size (l.frame w.alone w.sound);
        size = w.size;
        stamp = w.stamp;
        layer = w.layer;
      }

  abbrev at-end : Session
  at-end = after (fresh o) calls

  -- an answer that delivers
  pub delivered-whole : (t : List ℕ) (a : Answer) (b : Bool) (d : Delivery) → (take_of at-end (length buffer) t).outcome ≡ Outcome.Taken a → a.fate ≡ handing b d
      → Whole o (with cs t) b d (buffer_of at-end buffer t)
  delivered-whole t a b d e f =
      let w = taken-answer at-end buffer t a e in
      let n : hands o cs t ≡ false = sym (hands-as o calls buffer t w.ok) ∙ w.kept in
      let same : answer_of o cs t ≡ a = same_answer (answer_of o cs t) a (sym (transfer-answers o calls buffer t w.ok ∙ ap (λ (c : Bool). cond c (Outcome.Handed (out_of o (last_run o cs))) (Outcome.Taken (answer_of o cs t))) n) ∙ e) in
      rw (transfer-writes o calls buffer t w.ok, n) (whole_by t b d (still_open o calls (Offer.take buffer t) w.ok) (reading_of o t) refl (ap (λ (x : Answer). x.fate) same ∙ f))

  -- a hand-out
  pub handed-whole : (t : List ℕ) (x : HandOut) → (take_of at-end (length buffer) t).outcome ≡ Outcome.Handed x → HandedWhole o cs x (buffer_of at-end buffer t)
  handed-whole t x e =
      let f = handed-answer at-end buffer t x e in
      let n : hands o cs t ≡ true = sym (hands-as o calls buffer t f.ok) ∙ f.hands in
      let p = (handed_out_lem o calls buffer t x f.ok).0 e in
      let w = frame-whole o (last_run o cs) p.unmarked in
      let k = (kept-all o B ks room).held (still_open o calls (Offer.take buffer t) f.ok) p.unmarked (ap (fault o) (sym w) ∙ p.sound) in
      let size : x.delivery.len ≡ length (data_of (frame_of o (last_run o cs))) = ap (λ (y : HandOut). y.delivery.len) p.frame in
      record {
        frame = p.frame;
        payload = rw (transfer-writes o calls buffer t f.ok, n, size, w) k;
        size = size;
      }
