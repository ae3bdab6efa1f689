-- What one call more makes of the last run's frame: its ending.
use Rattle.std.specs.Prelude.{None, Some}
use Rattle.session_rules.specs.Options.{Fault, Layer, Stamp}
use Rattle.std.proofs.Common.{◌≡◌, ℕ, ◌+◌, Bool, true, false, cond, not, ◌&&◌, ◌||◌, eqb, List, [], ◌∷◌, ◌++◌, length, sym, refl, ap, ◌∙◌, subst, true≢false}
use Rattle.sizes.specs.declared.Opening.{Opening}
use Rattle.sizes.specs.Framing.{by_eof}
use Rattle.session_rules.specs.declared.Header.{Header}
use Rattle.session_rules.specs.declared.Reason.{Reason}
use Rattle.session_rules.specs.declared.Reason.TheVariants.{Gap, Empty}
use Rattle.session_rules.specs.Entry.{Entry}
use Rattle.books.specs.Rule.{Seen, eof_of, closes, frame_of, closed, complete, data_of, ◌or_stamp◌, first_stamp, ◌then_layer◌, last_layer, still_of, ◌or◌, when, fault_at, gap_after, fault_from, gap_before, fault, handed_out, verdict}
use Rattle.books.specs.Answer.{frame_entry, reason_in, ended_in, is_sound, hands_in, turns, out_of}
use Rattle.books.proofs.OneMore.{spoilt, noted, spoil_last, mark_last}
use Rattle.books.proofs.Grown.{and, frame-whole, closed-frame, closed-spoilt, closed-marked}
use Rattle.books.proofs.Tracked.{complete-last}
use Rattle.endings.specs.declared.How.{How}
use Rattle.endings.specs.declared.Ending.{Ending}
use Rattle.endings.specs.Endings.{ending_as, ending_in, ending_from}
use Rattle.endings.specs.Inner.{out_as, how_out, told_in}

-- ---- the rule's entry, and the ending
-- what the ending of a frame is made of
abbrev pub ending_by : Bool → Bool → Fault → Stamp → Layer → Bool → ℕ → List Ending
ending_by way c q s y b n = ending_in (verdict way c q s y b n) n s

-- of the transfers of a frame
abbrev pub ending_on : Opening → Bool → Bool → List Seen → List Ending
ending_on o way c f = ending_by way c (fault o f) (first_stamp f) (last_layer f) (still_of f) (length (data_of f))

-- a complete frame ended as the rule says, whether its run is the last or the session open
complete-any : (v w : Bool) (q : Fault) (s : Stamp) (y : Layer) (b : Bool) (n : ℕ) → ending_by v true q s y b n ≡ ending_by w true q s y b n
complete-any v w (Some x) s y b n = refl
complete-any v w None s y b n = refl

-- its reason names its ending
pub reason-ending : (e : Entry) (n : ℕ) (s : Stamp) (w : Reason) → reason_in e ≡ Some w → ending_in e n s ≡ ending_as (How.Dropped w) n s ∷ []
reason-ending (Entry.Delivered d) n s w p = cc
reason-ending (Entry.Still d) n s w p = cc
reason-ending (Entry.Dropped v k) n s w p = cc
reason-ending (Entry.UnderWay k) n s w p = cc
reason-ending (Entry.Stray k) n s w p = cc
reason-ending (Entry.Unreadable k) n s w p = cc
reason-ending (Entry.Headers k) n s w p = cc
reason-ending Entry.Lost n s w p = cc
reason-ending Entry.Idle n s w p = cc

module _ (o : Opening) where
  -- ---- a run that nothing closes: its frame has not ended while it is the last
  pub under_none : (r : List Seen) → closed o r ≡ false → ending_from o true true r ≡ []
  under_none r e =
      ap (λ (c : Bool). ending_on o true c (frame_of o r)) (complete-last o (frame_of o r) ∙ closed-frame o r ∙ e)

  pub none-none : ending_from o true true [] ≡ []
  none-none = under_none [] refl

  -- and where something ends it, with its reason
  pub part-ending : (p l : Bool) (u : Seen) (us : List Seen) (w : Reason) → closed o (u ∷ us) ≡ false → ended_in o p l (u ∷ us) ≡ Some w
      → ending_from o p l (u ∷ us) ≡ ending_as (How.Dropped w) (length (data_of (u ∷ us))) (first_stamp (u ∷ us)) ∷ []
  part-ending p l u us w e q =
      let r : List Seen = u ∷ us in
      reason-ending (frame_entry o p l r) (length (data_of (frame_of o r))) (first_stamp (frame_of o r)) w
      (sym (ap (λ (c : Bool). cond c None (reason_in (frame_entry o p l r))) (closed-frame o r ∙ e)) ∙ q)
      ∙ ap (λ (f : List Seen). ending_as (How.Dropped w) (length (data_of f)) (first_stamp f) ∷ []) (frame-whole o r e)

  -- ---- a run that is closed: its frame has ended, whatever comes
  closed_on : (p l : Bool) (r : List Seen) → closed o r ≡ true → ending_from o p l r ≡ ending_on o true true (frame_of o r)
  closed_on p l r e =
      let f : List Seen = frame_of o r in
      ap (λ (c : Bool). ending_on o (p && l) (c || (not (by_eof o) && not l)) f) (closed-frame o r ∙ e)
      ∙ complete-any (p && l) true (fault o f) (first_stamp f) (last_layer f) (still_of f) (length (data_of f))

  pub closed-any : (p l : Bool) (r : List Seen) → closed o r ≡ true → ending_from o p l r ≡ ending_from o true true r
  closed-any p l r e = closed_on p l r e ∙ sym (closed_on true true r e)

  -- with a stray more
  frame-stays : (r : List Seen) (t : Seen) → closed o r ≡ true → frame_of o (and r t) ≡ frame_of o r
  frame-stays [] t e = absurd (true≢false (sym e))
  frame-stays (u ∷ us) t e = go (closes o u) e (frame-stays us t)
    where
      go : (b : Bool) → (b || closed o us) ≡ true → (closed o us ≡ true → frame_of o (and us t) ≡ frame_of o us)
          → ◌≡◌ {A = List Seen} (u ∷ cond b [] (frame_of o (and us t))) (u ∷ cond b [] (frame_of o us))
      go true q rec = refl
      go false q rec = ap (u ∷◌) (rec q)

  pub stray-same : (r : List Seen) (t : Seen) → closed o r ≡ true → ending_from o true true (and r t) ≡ ending_from o true true r
  stray-same r t e = ap (λ (f : List Seen). ending_on o true (complete o true f) f) (frame-stays r t e)

  -- ---- a gap after the last transfer of a run that is closed: none of its frame
  spoilt-closes : (t : Seen) → closes o (spoilt t) ≡ closes o t
  spoilt-closes t = refl

  gap_same : (t : Seen) → closes o t ≡ true → gap_after o (spoilt t) ≡ gap_after o t
  gap_same t e = go (eof_of o t.header) t.marked t.after e
    where
      go : (b m a : Bool) → (b || m) ≡ true → (not b && (a || not m)) ≡ (not b && a)
      go true m a q = refl
      go false true true q = refl
      go false true false q = refl
      go false false a q = absurd (true≢false (sym q))

  module _ (s : Stamp) (b : Bool) where
    from-same : (n : ℕ) (r : List Seen) → closed o r ≡ true → fault_from o s b n (frame_of o (spoil_last r)) ≡ fault_from o s b n (frame_of o r)
    from-same n [] e = refl
    from-same n (t ∷ []) e = go (closes o t) refl e
      where
        go : (c : Bool) → closes o t ≡ c → (c || false) ≡ true → fault_from o s b n (spoilt t ∷ cond c [] []) ≡ fault_from o s b n (t ∷ cond c [] [])
        go true p q = rw (gap_same t p)
        go false p q = absurd (true≢false (sym q))
    from-same n (t ∷ (u ∷ us)) e = go (closes o t) e (from-same (n + length t.load) (u ∷ us))
      where
        k : ℕ
        k = n + length t.load

        own : Fault → Fault
        own x = fault_at o s b n t.header (length t.load) or when (gap_after o t) Gap or x

        go : (c : Bool) → (c || closed o (u ∷ us)) ≡ true
            → (closed o (u ∷ us) ≡ true → fault_from o s b k (frame_of o (spoil_last (u ∷ us))) ≡ fault_from o s b k (frame_of o (u ∷ us)))
            → own (fault_from o s b k (cond c [] (frame_of o (spoil_last (u ∷ us))))) ≡ own (fault_from o s b k (cond c [] (frame_of o (u ∷ us))))
        go true p rec = refl
        go false p rec = ap own (rec p)

  -- what else the ending is made of does not see it
  module _ {A : Type 0} (m : List Seen → A) (put : Seen → A → A)
      (step : (t : Seen) (ts : List Seen) → m (t ∷ ts) ≡ put t (m ts)) (blind : (t : Seen) (a : A) → put (spoilt t) a ≡ put t a) where
    sum_same : (r : List Seen) → m (frame_of o (spoil_last r)) ≡ m (frame_of o r)
    sum_same [] = refl
    sum_same (t ∷ []) =
        let f : List Seen = cond (closes o t) [] [] in
        step (spoilt t) f ∙ blind t (m f) ∙ sym (step t f)
    sum_same (t ∷ (u ∷ us)) = step t _ ∙ ap (put t) (go (closes o t) (sum_same (u ∷ us))) ∙ sym (step t _)
      where
        go : (c : Bool) → m (frame_of o (spoil_last (u ∷ us))) ≡ m (frame_of o (u ∷ us)) → m (cond c [] (frame_of o (spoil_last (u ∷ us)))) ≡ m (cond c [] (frame_of o (u ∷ us)))
        go true rec = refl
        go false rec = rec

  data-same : (r : List Seen) → data_of (frame_of o (spoil_last r)) ≡ data_of (frame_of o r)
  data-same = sum_same data_of (λ t d. t.load ++ d) (λ t ts. refl) (λ t d. refl)

  stamp-same : (r : List Seen) → first_stamp (frame_of o (spoil_last r)) ≡ first_stamp (frame_of o r)
  stamp-same = sum_same first_stamp (λ t s. t.header.stamp or_stamp s) (λ t ts. refl) (λ t s. refl)

  layer-same : (r : List Seen) → last_layer (frame_of o (spoil_last r)) ≡ last_layer (frame_of o r)
  layer-same = sum_same last_layer (λ t y. t.header.layer then_layer y) (λ t ts. refl) (λ t y. refl)

  still-same : (r : List Seen) → still_of (frame_of o (spoil_last r)) ≡ still_of (frame_of o r)
  still-same = sum_same still_of (λ t b. t.header.still) (λ t ts. refl) (λ t b. refl)

  before_same : (r : List Seen) → gap_before (frame_of o (spoil_last r)) ≡ gap_before (frame_of o r)
  before_same = sum_same gap_before (λ t b. t.before) (λ t ts. refl) (λ t b. refl)

  fault-same : (r : List Seen) → closed o r ≡ true → fault o (frame_of o (spoil_last r)) ≡ fault o (frame_of o r)
  fault-same r e =
      let f : List Seen = frame_of o r in
      let g : List Seen = frame_of o (spoil_last r) in
      ap (λ (c : Bool). when c Gap or fault_from o (first_stamp g) (still_of g) 0 g) (before_same r)
      ∙ ap (λ (s : Stamp). when (gap_before f) Gap or fault_from o s (still_of g) 0 g) (stamp-same r)
      ∙ ap (λ (b : Bool). when (gap_before f) Gap or fault_from o (first_stamp f) b 0 g) (still-same r)
      ∙ ap (when (gap_before f) Gap or◌) (from-same (first_stamp f) (still_of f) 0 r e)

  closed-gap : (r : List Seen) → closed o r ≡ true → ending_from o true true (spoil_last r) ≡ ending_from o true true r
  closed-gap r e =
      let f : List Seen = frame_of o r in
      let g : List Seen = frame_of o (spoil_last r) in
      closed_on true true (spoil_last r) (closed-spoilt o r ∙ e)
      ∙ ap (λ (q : Fault). ending_by true true q (first_stamp g) (last_layer g) (still_of g) (length (data_of g))) (fault-same r e)
      ∙ ap (λ (s : Stamp). ending_by true true (fault o f) s (last_layer g) (still_of g) (length (data_of g))) (stamp-same r)
      ∙ ap (λ (y : Layer). ending_by true true (fault o f) (first_stamp f) y (still_of g) (length (data_of g))) (layer-same r)
      ∙ ap (λ (b : Bool). ending_by true true (fault o f) (first_stamp f) (last_layer f) b (length (data_of g))) (still-same r)
      ∙ ap (λ (d : List ℕ). ending_by true true (fault o f) (first_stamp f) (last_layer f) (still_of f) (length d)) (data-same r)
      ∙ sym (closed_on true true r e)

  -- AN UNREADABLE OR LOST TRANSFER ends no frame
  pub gap-ends-none : (r : List Seen) → ending_from o true true (spoil_last r) ≡ ending_from o true true r
  gap-ends-none r = go (closed o r) refl
    where
      go : (b : Bool) → closed o r ≡ b → ending_from o true true (spoil_last r) ≡ ending_from o true true r
      go true e = closed-gap r e
      go false e = under_none (spoil_last r) (closed-spoilt o r ∙ e) ∙ sym (under_none r e)

-- ---- a mark after the last transfer: nothing but the mark is new
module _ {A : Type 0} (m : List Seen → A) (put : Seen → A → A)
    (step : (t : Seen) (ts : List Seen) → m (t ∷ ts) ≡ put t (m ts)) (blind : (t : Seen) (a : A) → put (noted t) a ≡ put t a) where
  sum-marked : (r : List Seen) → m (mark_last r) ≡ m r
  sum-marked [] = refl
  sum-marked (t ∷ []) = step (noted t) [] ∙ blind t (m []) ∙ sym (step t [])
  sum-marked (t ∷ (u ∷ us)) = step t _ ∙ ap (put t) (sum-marked (u ∷ us)) ∙ sym (step t _)

data-marked : (r : List Seen) → data_of (mark_last r) ≡ data_of r
data-marked = sum-marked data_of (λ t d. t.load ++ d) (λ t ts. refl) (λ t d. refl)

stamp-marked : (r : List Seen) → first_stamp (mark_last r) ≡ first_stamp r
stamp-marked = sum-marked first_stamp (λ t s. t.header.stamp or_stamp s) (λ t ts. refl) (λ t s. refl)

layer-marked : (r : List Seen) → last_layer (mark_last r) ≡ last_layer r
layer-marked = sum-marked last_layer (λ t y. t.header.layer then_layer y) (λ t ts. refl) (λ t y. refl)

still_marked : (r : List Seen) → still_of (mark_last r) ≡ still_of r
still_marked = sum-marked still_of (λ t b. t.header.still) (λ t ts. refl) (λ t b. refl)

before-marked : (r : List Seen) → gap_before (mark_last r) ≡ gap_before r
before-marked = sum-marked gap_before (λ t b. t.before) (λ t ts. refl) (λ t b. refl)

module _ (o : Opening) where
  from-marked : (s : Stamp) (b : Bool) (n : ℕ) (r : List Seen) → fault_from o s b n (mark_last r) ≡ fault_from o s b n r
  from-marked s b n [] = refl
  from-marked s b n (t ∷ []) = refl
  from-marked s b n (t ∷ (u ∷ us)) =
      ap (λ (x : Fault). fault_at o s b n t.header (length t.load) or when (gap_after o t) Gap or x) (from-marked s b (n + length t.load) (u ∷ us))

  fault-marked : (r : List Seen) → fault o (mark_last r) ≡ fault o r
  fault-marked r =
      let g : List Seen = mark_last r in
      ap (λ (c : Bool). when c Gap or fault_from o (first_stamp g) (still_of g) 0 g) (before-marked r)
      ∙ ap (λ (s : Stamp). when (gap_before r) Gap or fault_from o s (still_of g) 0 g) (stamp-marked r)
      ∙ ap (λ (b : Bool). when (gap_before r) Gap or fault_from o (first_stamp r) b 0 g) (still_marked r)
      ∙ ap (when (gap_before r) Gap or◌) (from-marked (first_stamp r) (still_of r) 0 r)

  frame-marked : (r : List Seen) → closed o r ≡ false → frame_of o (mark_last r) ≡ mark_last r
  frame-marked [] e = refl
  frame-marked (t ∷ []) e = go (closes o (noted t))
    where
      go : (b : Bool) → ◌≡◌ {A = List Seen} (noted t ∷ cond b [] []) (noted t ∷ [])
      go true = refl
      go false = refl
  frame-marked (t ∷ (u ∷ us)) e = go (closes o t) e (frame-marked (u ∷ us))
    where
      g : List Seen
      g = mark_last (u ∷ us)

      go : (b : Bool) → (b || closed o (u ∷ us)) ≡ false → (closed o (u ∷ us) ≡ false → frame_of o g ≡ g) → ◌≡◌ {A = List Seen} (t ∷ cond b [] (frame_of o g)) (t ∷ g)
      go true q rec = absurd (true≢false q)
      go false q rec = ap (t ∷◌) (rec q)

  sound-out : (q : Fault) (n : ℕ) (s : Stamp) (y : Layer) (b : Bool) → (is_sound q && not (eqb n 0)) ≡ true
      → ending_by true true q s y b n ≡ ending_as (out_as b) n s ∷ []
  sound-out (Some w) n s y b e = absurd (true≢false (sym e))
  sound-out None n s y b e = go (eqb n 0) b e
    where
      go : (z c : Bool) → not z ≡ true → ending_in (cond z (Entry.Dropped Empty n) (handed_out c (record { len = n; stamp = s; layer = y }))) n s ≡ ending_as (out_as c) n s ∷ []
      go true c q = absurd (true≢false (sym q))
      go false true q = refl
      go false false q = refl

  -- A HAND-OUT ends the frame that it hands out
  pub mark-ends : (h : Header) (u : Seen) (us : List Seen) → hands_in o h (u ∷ us) ≡ true
      → ending_from o true true (mark_last (u ∷ us)) ≡ ending_from o true true (u ∷ us) ++ told_in (how_out (out_of o (u ∷ us)).still (out_of o (u ∷ us)).delivery)
  mark-ends h u us e =
      let r : List Seen = u ∷ us in
      let g : List Seen = mark_last r in
      closed_on o true true g (closed-marked o u us)
      ∙ ap (ending_on o true true) (frame-marked r going)
      ∙ ap (λ (q : Fault). ending_by true true q (first_stamp g) (last_layer g) (still_of g) (length (data_of g))) (fault-marked r)
      ∙ ap (λ (s : Stamp). ending_by true true (fault o r) s (last_layer g) (still_of g) (length (data_of g))) (stamp-marked r)
      ∙ ap (λ (y : Layer). ending_by true true (fault o r) (first_stamp r) y (still_of g) (length (data_of g))) (layer-marked r)
      ∙ ap (λ (b : Bool). ending_by true true (fault o r) (first_stamp r) (last_layer r) b (length (data_of g))) (still_marked r)
      ∙ ap (λ (d : List ℕ). ending_by true true (fault o r) (first_stamp r) (last_layer r) (still_of r) (length d)) (data-marked r)
      ∙ sound-out (fault o r) (length (data_of r)) (first_stamp r) (last_layer r) (still_of r) (subst (λ (f : List Seen). (is_sound (fault o f) && not (eqb (length (data_of f)) 0)) ≡ true) (frame-whole o r going) fine)
      ∙ ap (λ (f : List Seen). ending_as (out_as (still_of f)) (length (data_of f)) (first_stamp f) ∷ []) (sym (frame-whole o r going))
      ∙ ap (◌++ told_in (how_out (out_of o r).still (out_of o r).delivery)) (sym (under_none o r going))
    where
      split : (a b c d : Bool) → (not a && (b && (not c && d))) ≡ true → (c ≡ false) × (d ≡ true)
      split true b c d q = absurd (true≢false (sym q))
      split false false c d q = absurd (true≢false (sym q))
      split false true true d q = absurd (true≢false (sym q))
      split false true false d q = (refl, q)

      parts : (closed o (u ∷ us) ≡ false) × ((is_sound (fault o (frame_of o (u ∷ us))) && not (eqb (length (data_of (frame_of o (u ∷ us)))) 0)) ≡ true)
      parts = split (by_eof o) (turns h (u ∷ us)) (closed o (u ∷ us)) (is_sound (fault o (frame_of o (u ∷ us))) && not (eqb (length (data_of (frame_of o (u ∷ us)))) 0)) e

      going : closed o (u ∷ us) ≡ false
      going = parts.0

      fine : (is_sound (fault o (frame_of o (u ∷ us))) && not (eqb (length (data_of (frame_of o (u ∷ us)))) 0)) ≡ true
      fine = parts.1
