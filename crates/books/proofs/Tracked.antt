-- The tracker and the last run of the list: what each turn answers and writes is what the rule says of the last run.
use Rattle.std.specs.Prelude.{None, Some}
use Rattle.session_rules.specs.Options.{Ended, Fault, Layer, Stamp}
use Prim.Native.Nat.{ℕ, ◌+◌}
use mathlib.Core.Path.{◌≡◌, refl, sym, ◌∙◌, ap, subst}
use mathlib.Core.Bool.{Bool, true, false, cond, not, ◌&&◌, ◌||◌, beq}
use mathlib.Core.List.{List, [], ◌∷◌}
use lib.ListN.{length, length-append}
use lib.Seq.{paste, paste-zero}
use lib.Dec.{ltb, eqb}
use Rattle.rules.specs.IfElse.{if_else}
use Rattle.sizes.specs.declared.Opening.{Opening}
use Rattle.sizes.specs.Framing.{by_eof}
use Rattle.session_rules.specs.declared.Header.{Header}
use Rattle.session_rules.specs.declared.Reason.TheVariants.{Gap, Cut, Empty}
use Rattle.session_rules.specs.declared.Run.{Run}
use Rattle.session_rules.specs.declared.Phase.{Phase}
use Rattle.session_rules.specs.declared.Phase.TheVariants.{Fresh, Under, Past}
use Rattle.session_rules.specs.declared.Fate.{Fate}
use Rattle.session_rules.specs.declared.Delivery.{Delivery}
use Rattle.session_rules.specs.declared.Turn.{Turn}
use Rattle.session_rules.specs.Turns.{why_of, same_of, begun_of, joined_of, complete_of, ends_of, turned_why, fate_of, phase_of, join_turn, stray_turn, turn_by, ready_of, hands_by, out_by}
use Rattle.session_rules.specs.Turns as track
use Rattle.session_rules.specs.Entry.{Entry}
use Rattle.books.specs.Rule.{Seen, closes, frame_of, stray_of, closed, complete, data_of, ◌or_stamp◌, first_stamp, ◌then_layer◌, last_layer, still_of, ◌or◌, when, fault_at, fault, handed_out, verdict}
use Rattle.books.specs.Answer.{frame_entry, reason_in, ended_in, turned_in, goes_on, fate_in, fate_by, fate_on, turns, is_sound, hands_in, out_of, earlier, written_by, written_in}
use Rattle.books.proofs.Cut.{or_sound, stamp-absent, earlier-or, later-then, same-beq, fault-or}
use Rattle.books.proofs.Owed.{and-false, not-false, begun-fault, Whole}
use Rattle.books.proofs.Sound.{Snug, Fit, fault_by, snug-begun}
use Rattle.books.proofs.OneMore.{seen_with, mark_last, grown}
use Rattle.books.proofs.Grown.{and, frame-whole, closed-frame, closed-more, closed-marked, frame-more, stray-none, stray-more, earlier_more, data-more, stamp-more, layer-more, so_far, fault-more}

or-false : (b : Bool) → (b || false) ≡ b
or-false true = refl
or-false false = refl

-- while its run is the last, a frame is complete if something closes it
pub complete-last : (o : Opening) (ts : List Seen) → complete o true ts ≡ closed o ts
complete-last o ts = ap (closed o ts ||◌) (and-false (not (by_eof o))) ∙ or-false (closed o ts)

-- a run of this FID
abbrev pub Of : Bool → List Seen → Type 0
Of f [] = ⊥
Of f (t ∷ ts) = t.header.fid ≡ f

-- a frame part read, as the tracker holds it: nothing closes r; q is its fault so far, b its still bit
pub record Part (o : Opening) (q : Fault) (b : Bool) (x : Run) (r : List Seen) : Type 0 where
  pub going : closed o r ≡ false
  pub fault₀ : x.fault ≡ q
  pub still₀ : x.still ≡ b
  pub stamp₀ : x.stamp ≡ first_stamp r
  pub layer₀ : x.layer ≡ last_layer r
  pub bytes₀ : x.bytes ≡ length (data_of r)

-- what the tracker knows of the last run
abbrev pub Tracks : Opening → Phase → List Seen → Type 0
Tracks o Fresh r = r ≡ []
Tracks o (Under x) r = Of x.fid r × Part o (fault o r) (still_of r) x r
Tracks o (Past f) r = Of f r × (closed o r ≡ true)

-- ---- the tracker's words and the rule's
complete-same : (q : Fault) (s : Stamp) (y : Layer) (b : Bool) (n : ℕ) → complete_of q n s y b ≡ fate_in (verdict true true q s y b n)
unfolding if_else
complete-same (Some w) s y b n = refl
complete-same None s y b n = go (eqb n 0) b
  where
    d : Delivery
    d = record { len = n; stamp = s; layer = y }

    go : (c b : Bool) → if_else c (Fate.Dropped Empty) (if_else b (Fate.Still d) (Fate.Delivered d)) ≡ fate_in (cond c (Entry.Dropped Empty n) (handed_out b d))
    go true b = refl
    go false true = refl
    go false false = refl

fate-same : (e : Bool) (y : Run) → fate_of e y ≡ fate_in (verdict true e y.fault y.stamp y.layer y.still y.bytes)
fate-same true y = complete-same y.fault y.stamp y.layer y.still y.bytes
fate-same false y = refl

-- where no fault comes with a transfer, there was none before it, and all the data is written
filled : (frame : ℕ) (q : Fault) (i c m l : Bool) (fill bytes : ℕ) → Snug frame q fill bytes → fault_by q i c m l ≡ None → fill ≡ bytes
filled frame None i c m l fill bytes g e = g.0
filled frame (Some w) i c m l fill bytes g e = cc

-- ---- a transfer joins a frame
module _ (o : Opening) (h : Header) (d : List ℕ) (b : Bool) where
  abbrev t : Seen
  t = seen_with h d b

  abbrev n : ℕ
  n = length d

  module _ (x : Run) (r : List Seen) (p : Part o (so_far o t r) (still_of (and r t)) x r) where
    abbrev y : Run
    y = joined_of o x h n

    joined-stamp : y.stamp ≡ first_stamp (and r t)
    joined-stamp = earlier-or x.stamp h.stamp ∙ ap (◌or_stamp h.stamp) p.stamp₀ ∙ sym (stamp-more r t)

    joined-layer : y.layer ≡ last_layer (and r t)
    joined-layer = later-then x.layer h.layer ∙ ap (◌then_layer h.layer) p.layer₀ ∙ sym (layer-more r t)

    alone : fault o (and r t) ≡ so_far o t r or fault_at o (first_stamp (and r t)) (still_of (and r t)) (length (data_of r)) h n
    alone =
        let f : Fault = fault_at o (first_stamp (and r t)) (still_of (and r t)) (length (data_of r)) h n in
        fault-more o r t ∙ ap (λ (c : Bool). so_far o t r or (f or when c Gap)) (and-false (not (ends_of o h))) ∙ ap (so_far o t r or◌) (or_sound f)

    joined-fault : y.fault ≡ fault o (and r t)
    joined-fault =
        fault-or o x h n None
        ∙ ap (λ (c : Bool). x.fault or fault_at o (x.stamp or_stamp (h.stamp or_stamp None)) c x.bytes h n) p.still₀
        ∙ ap (λ (s : Stamp). x.fault or fault_at o s (still_of (and r t)) x.bytes h n) (ap (x.stamp or_stamp◌) (stamp-absent h.stamp) ∙ ap (◌or_stamp h.stamp) p.stamp₀ ∙ sym (stamp-more r t))
        ∙ ap (λ (k : ℕ). x.fault or fault_at o (first_stamp (and r t)) (still_of (and r t)) k h n) p.bytes₀
        ∙ ap (◌or fault_at o (first_stamp (and r t)) (still_of (and r t)) (length (data_of r)) h n) p.fault₀
        ∙ sym alone

    joined_bytes : y.bytes ≡ length (data_of (and r t))
    joined_bytes = ap (◌+ n) p.bytes₀ ∙ sym (ap length (data-more r t) ∙ length-append (data_of r) d)

    joined-eof : closed o (and r t) ≡ ends_of o h
    joined-eof = closed-more o r t ∙ ap (◌|| closes o t) p.going ∙ or-false (ends_of o h)

    -- its fate is the rule's
    entry-right : frame_entry o true true (and r t) ≡ verdict true (ends_of o h) y.fault y.stamp y.layer y.still y.bytes
    entry-right =
        ap (λ (f : List Seen). verdict true (complete o true f) (fault o f) (first_stamp f) (last_layer f) (still_of f) (length (data_of f))) (frame-more o r t p.going)
        ∙ ap (λ (e : Bool). verdict true e (fault o (and r t)) (first_stamp (and r t)) (last_layer (and r t)) (still_of (and r t)) (length (data_of (and r t)))) (complete-last o (and r t))
        ∙ sym (ap (λ (q : Fault). verdict true (ends_of o h) q y.stamp y.layer y.still y.bytes) joined-fault
        ∙ ap (λ (s : Stamp). verdict true (ends_of o h) (fault o (and r t)) s y.layer y.still y.bytes) joined-stamp
        ∙ ap (λ (l : Layer). verdict true (ends_of o h) (fault o (and r t)) (first_stamp (and r t)) l y.still y.bytes) joined-layer
        ∙ ap (λ (c : Bool). verdict true (ends_of o h) (fault o (and r t)) (first_stamp (and r t)) (last_layer (and r t)) c y.bytes) p.still₀
        ∙ ap (verdict true (ends_of o h) (fault o (and r t)) (first_stamp (and r t)) (last_layer (and r t)) (still_of (and r t))) joined_bytes
        ∙ ap (λ (e : Bool). verdict true e (fault o (and r t)) (first_stamp (and r t)) (last_layer (and r t)) (still_of (and r t)) (length (data_of (and r t)))) (sym joined-eof))

    joined-fate : fate_of (ends_of o h) y ≡ fate_on o (and r t)
    joined-fate =
        fate-same (ends_of o h) y ∙ ap fate_in (sym entry-right) ∙ ap (λ (ts : List Seen). fate_by ts (frame_entry o true true (and r t))) (sym (stray-none o r t p.going))

    -- what the tracker knows after it
    joined-tracks : Of x.fid (and r t) → Tracks o (phase_of (ends_of o h) y) (and r t)
    joined-tracks f = go (ends_of o h) refl
      where
        go : (e : Bool) → ends_of o h ≡ e → Tracks o (phase_of e y) (and r t)
        go true e = (f, joined-eof ∙ e)
        go false e = (f, record { going = joined-eof ∙ e; fault₀ = joined-fault; still₀ = p.still₀; stamp₀ = joined-stamp; layer₀ = joined-layer; bytes₀ = joined_bytes })

    -- its data is written as the rule says
    put : (B : List ℕ) (f : Fault) → (f ≡ None → x.fill ≡ length (data_of r)) → paste B x.fill d (track.written_of f n) ≡ written_by [] f (length (data_of r)) d B
    put B None e = ap (λ (k : ℕ). paste B k d n) (e refl)
    put B (Some w) e = sym (paste-zero B x.fill d)

    joined-written : Snug o.frame x.fault x.fill x.bytes → (B : List ℕ) → paste B x.fill d (track.written_of y.fault n) ≡ written_in o (and r t) d B
    joined-written g B =
        put B y.fault (λ e. filled o.frame x.fault h.error (track.clash_of x.stamp h.stamp) (track.mixed_of x h) (ltb o.frame (x.bytes + n)) x.fill x.bytes g e ∙ p.bytes₀)
        ∙ ap (λ (q : Fault). written_by [] q (length (data_of r)) d B) joined-fault
        ∙ ap (λ (l : List Seen). written_by [] (fault o (and r t)) (length (data_of l)) d B) (sym (earlier_more r t))
        ∙ ap (λ (f : List Seen). written_by [] (fault o f) (length (data_of (earlier f))) d B) (sym (frame-more o r t p.going))
        ∙ ap (λ (ts : List Seen). written_by ts (fault o (frame_of o (and r t))) (length (data_of (earlier (frame_of o (and r t))))) d B) (sym (stray-none o r t p.going))

-- ---- a frame that is ended
pub part-closed : (o : Opening) (x : Run) (u : Seen) (us : List Seen) → Part o (fault o (u ∷ us)) u.header.still x (u ∷ us) → ended_in o false true (u ∷ us) ≡ Some (why_of x.fault Cut)
part-closed o x u us p =
    let r : List Seen = u ∷ us in
    let f : List Seen = frame_of o r in
    ap (λ (c : Bool). cond (closed o f) None (reason_in (verdict false c (fault o f) (first_stamp f) (last_layer f) (still_of f) (length (data_of f))))) (complete-last o f)
    ∙ ap (λ (c : Bool). cond c None (reason_in (verdict false c (fault o f) (first_stamp f) (last_layer f) (still_of f) (length (data_of f))))) (closed-frame o r ∙ p.going)
    ∙ reason-same (fault o f) (first_stamp f) (last_layer f) (still_of f) (length (data_of f))
    ∙ ap (λ (g : List Seen). Some (why_of (fault o g) Cut)) (frame-whole o r p.going)
    ∙ ap (λ (q : Fault). Some (why_of q Cut)) (sym p.fault₀)
  where
    reason-same : (q : Fault) (s : Stamp) (y : Layer) (b : Bool) (k : ℕ) → reason_in (verdict false false q s y b k) ≡ Some (why_of q Cut)
    reason-same None s y b k = refl
    reason-same (Some w) s y b k = refl

-- by another FID: with D1 clear it is complete, and would have been handed out without a fault and with data
turned_same : (c : Bool) (q : Fault) (s : Stamp) (y : Layer) (b : Bool) (k : ℕ) → (not c && ready_of q k) ≡ false → reason_in (verdict false (not c && true) q s y b k) ≡ Some (why_of q (if_else c Cut Empty))
unfolding if_else
turned_same true None s y b k n = refl
turned_same true (Some w) s y b k n = refl
turned_same false (Some w) s y b k n = refl
turned_same false None s y b k n = rw (not-false (eqb k 0) n)

part_turned : (o : Opening) (x : Run) (u : Seen) (us : List Seen) → Part o (fault o (u ∷ us)) u.header.still x (u ∷ us) → (not (by_eof o) && ready_of x.fault x.bytes) ≡ false
    → turned_in o (u ∷ us) ≡ Some (why_of x.fault (turned_why o))
part_turned o x u us p n =
    let r : List Seen = u ∷ us in
    let f : List Seen = frame_of o r in
    ap (λ (c : Bool). cond c None (reason_in (verdict false (c || (not (by_eof o) && true)) (fault o f) (first_stamp f) (last_layer f) (still_of f) (length (data_of f))))) (closed-frame o r ∙ p.going)
    ∙ ap (λ (g : List Seen). reason_in (verdict false (not (by_eof o) && true) (fault o g) (first_stamp g) (last_layer g) (still_of g) (length (data_of g)))) (frame-whole o r p.going)
    ∙ ap (λ (q : Fault). reason_in (verdict false (not (by_eof o) && true) q (first_stamp r) (last_layer r) (still_of r) (length (data_of r)))) (sym p.fault₀)
    ∙ ap (λ (k : ℕ). reason_in (verdict false (not (by_eof o) && true) x.fault (first_stamp r) (last_layer r) (still_of r) k)) (sym p.bytes₀)
    ∙ turned_same (by_eof o) x.fault (first_stamp r) (last_layer r) (still_of r) x.bytes n

pub past-ended : (o : Opening) (open₀ last : Bool) (u : Seen) (us : List Seen) → closed o (u ∷ us) ≡ true → ended_in o open₀ last (u ∷ us) ≡ None
past-ended o open₀ last u us e = ap (λ (c : Bool). cond c None (reason_in (frame_entry o open₀ last (u ∷ us)))) (closed-frame o (u ∷ us) ∙ e)

-- ---- ONE TURN: what it answers, leaves and writes
pub record Turned (o : Opening) (h : Header) (d : List ℕ) (r s : List Seen) (T : Turn) : Type 0 where
  pub ended : T.answer.ended ≡ cond (goes_on h r) None (turned_in o r)
  pub fate : T.answer.fate ≡ fate_on o s
  pub tracks : Tracks o T.track.phase s
  pub written : (B : List ℕ) → paste B T.at d T.len ≡ written_in o s d B

stray-fate : (ts : List Seen) (t : Seen) (e : Entry) → Fate.Stray ≡ fate_by (and ts t) e
stray-fate [] t e = refl
stray-fate (u ∷ us) t e = refl

stray-written : (ts : List Seen) (t : Seen) (q : Fault) (at : ℕ) (d B : List ℕ) → B ≡ written_by (and ts t) q at d B
stray-written [] t q at d B = refl
stray-written (u ∷ us) t q at d B = refl

module _ (o : Opening) (h : Header) (d : List ℕ) (b : Bool) where
  begun-part : Part o (when b Gap) h.still (begun_of b h.fid h.still) []
  begun-part = record { going = refl; fault₀ = begun-fault b; still₀ = refl; stamp₀ = refl; layer₀ = refl; bytes₀ = refl }

  begun-turned : (r : List Seen) (ended : Ended) (gone : ℕ) → ended ≡ cond (goes_on h r) None (turned_in o r) → Turned o h d r (t o h d b ∷ []) (join_turn o (begun_of b h.fid h.still) h (length d) ended gone)
  begun-turned r ended gone e =
      let x : Run = begun_of b h.fid h.still in
      record {
        ended = e;
        fate = joined-fate o h d b x [] begun-part;
        tracks = joined-tracks o h d b x [] begun-part refl;
        written = joined-written o h d b x [] begun-part (snug-begun o.frame b);
      }

  joined-turned : (x : Run) (u : Seen) (us : List Seen) → u.header.fid ≡ x.fid → Part o (fault o (u ∷ us)) u.header.still x (u ∷ us) → Snug o.frame x.fault x.fill x.bytes
      → goes_on h (u ∷ us) ≡ true → Turned o h d (u ∷ us) (and (u ∷ us) (t o h d b)) (join_turn o x h (length d) None 0)
  joined-turned x u us f p g e = record {
    ended = sym (ap (λ (c : Bool). cond c None (turned_in o (u ∷ us))) e);
    fate = joined-fate o h d b x (u ∷ us) p;
    tracks = joined-tracks o h d b x (u ∷ us) p f;
    written = joined-written o h d b x (u ∷ us) p g;
  }

  stray-turned : (f : Bool) (u : Seen) (us : List Seen) → u.header.fid ≡ f → closed o (u ∷ us) ≡ true → goes_on h (u ∷ us) ≡ true
      → Turned o h d (u ∷ us) (and (u ∷ us) (t o h d b)) (stray_turn f (length d))
  stray-turned f u us q w e =
      let r : List Seen = u ∷ us in
      let z : Seen = t o h d b in
      record {
        ended = sym (ap (λ (c : Bool). cond c None (turned_in o r)) e);
        fate = stray-fate (stray_of o r) z (frame_entry o true true (and r z)) ∙ ap (λ (ts : List Seen). fate_by ts (frame_entry o true true (and r z))) (sym (stray-more o r z w));
        tracks = (q, closed-more o r z ∙ ap (◌|| closes o z) w);
        written = λ B. sym (paste-zero B 0 d) ∙ stray-written (stray_of o r) z (fault o (frame_of o (and r z))) (length (data_of (earlier (frame_of o (and r z))))) d B
            ∙ ap (λ (ts : List Seen). written_by ts (fault o (frame_of o (and r z))) (length (data_of (earlier (frame_of o (and r z))))) d B) (sym (stray-more o r z w));
      }

  same-run : (f : Bool) (u : Seen) → u.header.fid ≡ f → same_of f h.fid ≡ beq u.header.fid h.fid
  same-run f u e = same-beq f h.fid ∙ ap (λ (g : Bool). beq g h.fid) (sym e)

  pub turn-right : (ph : Phase) (r : List Seen) → Tracks o ph r → Fit o.frame ph → hands_by ph o h ≡ false → Turned o h d r (grown r (t o h d b)) (turn_by ph o b h (length d))
  unfolding if_else
  turn-right Fresh r e g n = subst (λ (l : List Seen). Turned o h d l (grown l (t o h d b)) (turn_by Fresh o b h (length d))) (sym e) (begun-turned [] None 0 refl)
  turn-right (Under x) [] e g n = absurd e.0
  turn-right (Under x) (u ∷ us) e g n = rw (same-run x.fid u e.0) (go (beq u.header.fid h.fid) refl (rw (same-run x.fid u e.0) at n))
    where
      go : (c : Bool) → goes_on h (u ∷ us) ≡ c → (not (by_eof o) && (not c && ready_of x.fault x.bytes)) ≡ false → Turned o h d (u ∷ us) (cond c (and (u ∷ us) (t o h d b)) (t o h d b ∷ []))
          (if_else c (join_turn o x h (length d) None 0) (join_turn o (begun_of b h.fid h.still) h (length d) (Some (why_of x.fault (turned_why o))) x.bytes))
      go true q m = joined-turned x u us e.0 e.1 g q
      go false q m = begun-turned (u ∷ us) (Some (why_of x.fault (turned_why o))) x.bytes (sym (ap (λ (c : Bool). cond c None (turned_in o (u ∷ us))) q ∙ part_turned o x u us e.1 m))
  turn-right (Past f) [] e g n = absurd e.0
  turn-right (Past f) (u ∷ us) e g n = rw (same-run f u e.0) (go (beq u.header.fid h.fid) refl)
    where
      go : (c : Bool) → goes_on h (u ∷ us) ≡ c → Turned o h d (u ∷ us) (cond c (and (u ∷ us) (t o h d b)) (t o h d b ∷ []))
          (if_else c (stray_turn f (length d)) (join_turn o (begun_of b h.fid h.still) h (length d) None 0))
      go true q = stray-turned f u us e.0 e.1 q
      go false q = begun-turned (u ∷ us) None 0 (sym (ap (λ (c : Bool). cond c None (turned_in o (u ∷ us))) q ∙ past-ended o true false u us e.1))

-- ---- THE HAND-OUT: the tracker finds it where the rule does, and hands out the rule's frame
ready-same : (q : Fault) (n : ℕ) → ready_of q n ≡ (is_sound q && not (eqb n 0))
ready-same None n = refl
ready-same (Some w) n = refl

pub hands-right : (o : Opening) (h : Header) (ph : Phase) (r : List Seen) → Tracks o ph r → hands_by ph o h ≡ hands_in o h r
hands-right o h Fresh r e = sym (rw e (and-false (not (by_eof o))))
hands-right o h (Under x) [] e = absurd e.0
hands-right o h (Under x) (u ∷ us) e =
    let r : List Seen = u ∷ us in
    let p = e.1 in
    ap (λ (c : Bool). not (by_eof o) && (not c && ready_of x.fault x.bytes)) (same-beq x.fid h.fid ∙ ap (λ (g : Bool). beq g h.fid) (sym e.0))
    ∙ ap (λ (c : Bool). not (by_eof o) && (turns h r && c)) (ready-same x.fault x.bytes
    ∙ ap (λ (q : Fault). is_sound q && not (eqb x.bytes 0)) p.fault₀
    ∙ ap (λ (k : ℕ). is_sound (fault o r) && not (eqb k 0)) p.bytes₀
    ∙ ap (λ (f : List Seen). is_sound (fault o f) && not (eqb (length (data_of f)) 0)) (sym (frame-whole o r p.going))
    ∙ ap (λ (c : Bool). not c && (is_sound (fault o (frame_of o r)) && not (eqb (length (data_of (frame_of o r))) 0))) (sym p.going))
hands-right o h (Past f) r e = sym (rw (e.1, and-false (turns h r)) (and-false (not (by_eof o))))

pub out-right : (o : Opening) (ph : Phase) (b : Bool) (r : List Seen) → Whole ph → Tracks o ph r → (out_by ph b).frame ≡ out_of o r
out-right o Fresh b r w e = absurd w
out-right o (Past f) b r w e = absurd w
out-right o (Under x) b r w e =
    let p = e.1 in
    sym (ap (λ (f : List Seen). record { still = still_of f; delivery = record { len = length (data_of f); stamp = first_stamp f; layer = last_layer f } }) (frame-whole o r p.going)
    ∙ rw (p.still₀, p.stamp₀, p.layer₀, p.bytes₀))

noted_of : (f : Bool) (r : List Seen) → Of f r → Of f (mark_last r)
noted_of f [] e = e
noted_of f (t ∷ []) e = e
noted_of f (t ∷ (u ∷ us)) e = e

pub out-tracks : (o : Opening) (ph : Phase) (b : Bool) (r : List Seen) → Whole ph → Tracks o ph r → Tracks o (out_by ph b).track.phase (mark_last r)
out-tracks o Fresh b r w e = absurd w
out-tracks o (Past f) b r w e = absurd w
out-tracks o (Under x) b [] w e = absurd e.0
out-tracks o (Under x) b (u ∷ us) w e = (noted_of x.fid (u ∷ us) e.0, closed-marked o u us)
