-- A readable transfer that is taken: the frames that it ends are those that are told.
use Rattle.std.specs.Prelude.{None, Some}
use Rattle.session_rules.specs.Options.{Fault, Layer, Stamp}
use Rattle.std.proofs.Common.{◌≡◌, ℕ, ◌+◌, ◌-◌, ◌%◌, ◌^◌, ◌<◌, Bool, true, false, cond, eqb, List, [], ◌∷◌, ◌++◌, length, sym, refl, ap, ◌∙◌, subst, append-nil, arith, length-append}
use mathlib.Core.Bool.{beq}
use Rattle.rules.specs.IfElse.{if_else}
use Rattle.sizes.specs.declared.Opening.{Opening}
use Rattle.session_rules.specs.declared.Header.{Header}
use Rattle.session_rules.specs.declared.Reading.{Reading}
use Rattle.session_rules.specs.declared.Reason.{Reason}
use Rattle.session_rules.specs.declared.Reason.TheVariants.{Empty}
use Rattle.session_rules.specs.declared.Run.{Run}
use Rattle.session_rules.specs.declared.Phase.{Phase}
use Rattle.session_rules.specs.declared.Phase.TheVariants.{Fresh, Under, Past}
use Rattle.session_rules.specs.Turns.{why_of, same_of, turned_why, hands_by}
use Rattle.session_rules.specs.Entry.{Entry}
use Rattle.books.specs.Rule.{Seen, frame_of, stray_of, closed, complete, data_of, ◌or_stamp◌, first_stamp, last_layer, still_of, fault, handed_out, verdict}
use Rattle.books.specs.Answer.{frame_entry, turned_in, goes_on, fate_in, fate_by, fate_on}
use Rattle.books.proofs.Cut.{earlier-or, same-beq}
use Rattle.books.proofs.Sound.{Fit}
use Rattle.books.proofs.OneMore.{seen_with, grown, added}
use Rattle.books.proofs.Grown.{and, frame-more, stray-none, stray-more, data-more, stamp-more}
use Rattle.books.proofs.Tracked.{Tracks, turn-right, past-ended}
use Rattle.endings.specs.declared.How.{How}
use Rattle.endings.specs.declared.Ending.{Ending}
use Rattle.endings.specs.Endings.{ending_as, ending_in, ending_from, endings_in}
use Rattle.endings.specs.Inner.{bytes_before, stamp_before, bytes_with, stamp_with, tell_ended, tell_fate, told_in}
use Rattle.endings.proofs.Frames.{ending_by, under_none, none-none, part-ending, closed-any, stray-same}

-- what is told by the fate that the rule gives, where the length and the stamp are the frame's
fate-told : (ph : Phase) (h : Header) (m : ℕ) (c : Bool) (q : Fault) (s : Stamp) (y : Layer) (b : Bool) (k : ℕ) → bytes_with ph h (m - h.len) ≡ k → stamp_with ph h ≡ s
    → told_in (tell_fate (Reading.Readable h) ph m (fate_in (verdict true c q s y b k))) ≡ ending_by true c q s y b k
fate-told ph h m false q s y b k e f = refl
fate-told ph h m true (Some w) s y b k e f = ap (λ (n : ℕ). ending_as (How.Dropped w) n (stamp_with ph h) ∷ []) e ∙ ap (λ (z : Stamp). ending_as (How.Dropped w) k z ∷ []) f
fate-told ph h m true None s y b k e f = go (eqb k 0) b
  where
    go : (z c : Bool)
        → told_in (tell_fate (Reading.Readable h) ph m (fate_in (cond z (Entry.Dropped Empty k) (handed_out c (record { len = k; stamp = s; layer = y })))))
        ≡ ending_in (cond z (Entry.Dropped Empty k) (handed_out c (record { len = k; stamp = s; layer = y }))) k s
    go true c = ap (λ (n : ℕ). ending_as (How.Dropped Empty) n (stamp_with ph h) ∷ []) e ∙ ap (λ (z : Stamp). ending_as (How.Dropped Empty) k z ∷ []) f
    go false true = refl
    go false false = refl

-- the frame that the transfer joins: r, or a new one where r has nothing
record Joins (o : Opening) (ph : Phase) (f : Bool) (r : List Seen) : Type 0 where
  going : closed o r ≡ false
  bytes : bytes_before ph f ≡ length (data_of r)
  stamp : stamp_before ph f ≡ first_stamp r

module _ (o : Opening) (h : Header) (d : List ℕ) (b : Bool) (ph : Phase) (m : ℕ) (size : m - h.len ≡ length d) (small : bytes_before ph h.fid + length d < 2 ^ 64) where
  abbrev t : Seen
  t = seen_with h d b

  -- what is told of the transfer's own frame
  abbrev own : List Seen → List Ending
  own s = told_in (tell_fate (Reading.Readable h) ph m (fate_on o s))

  module _ (r : List Seen) (j : Joins o ph h.fid r) where
    bytes-joined : bytes_with ph h (m - h.len) ≡ length (data_of (and r t))
    bytes-joined =
        ap (λ (k : ℕ). (bytes_before ph h.fid + k) % 2 ^ 64) size
        ∙ kept (bytes_before ph h.fid + length d) small
        ∙ ap (◌+ length d) j.bytes
        ∙ sym (ap length (data-more r t) ∙ length-append (data_of r) d)
      where
        kept : (k : ℕ) → k < 2 ^ 64 → k % 2 ^ 64 ≡ k
        kept k e = omega arith

    stamp-joined : stamp_with ph h ≡ first_stamp (and r t)
    stamp-joined = earlier-or (stamp_before ph h.fid) h.stamp ∙ ap (◌or_stamp h.stamp) j.stamp ∙ sym (stamp-more r t)

    own-told : own (and r t) ≡ ending_from o true true (and r t)
    own-told =
        let s : List Seen = and r t in
        let f : List Seen = frame_of o s in
        ap (λ (ts : List Seen). told_in (tell_fate (Reading.Readable h) ph m (fate_by ts (frame_entry o true true s)))) (stray-none o r t j.going)
        ∙ fate-told ph h m (complete o true f) (fault o f) (first_stamp f) (last_layer f) (still_of f) (length (data_of f))
        (bytes-joined ∙ ap (λ (g : List Seen). length (data_of g)) (sym (frame-more o r t j.going)))
        (stamp-joined ∙ ap first_stamp (sym (frame-more o r t j.going)))

  stray-told : (ts : List Seen) (e : Entry) → told_in (tell_fate (Reading.Readable h) ph m (fate_by (and ts t) e)) ≡ []
  stray-told [] e = refl
  stray-told (u ∷ us) e = refl

-- the tracker's FID is the run's
same-run : (f : Bool) (u : Seen) (g : Bool) → u.header.fid ≡ f → same_of f g ≡ beq u.header.fid g
same-run f u g e = same-beq f g ∙ ap (λ (x : Bool). beq x g) (sym e)

module _ (o : Opening) (h : Header) (d : List ℕ) (b : Bool) (m : ℕ) (size : m - h.len ≡ length d) where
  abbrev pub Told : Phase → List Seen → Type 0
  Told ph r =
      bytes_before ph h.fid + length d < 2 ^ 64
      → endings_in o true (added r (seen_with h d b))
      ≡ ending_from o true true r
      ++ (told_in (tell_ended ph (cond (goes_on h r) None (turned_in o r))) ++ told_in (tell_fate (Reading.Readable h) ph m (fate_on o (grown r (seen_with h d b)))))

  -- no readable transfer before it
  fresh-ends : Told Fresh []
  fresh-ends small =
      let s : List Seen = seen_with h d b ∷ [] in
      append-nil (ending_from o true true s)
      ∙ sym (own-told o h d b Fresh m size small [] (record { going = refl; bytes = refl; stamp = refl }))
      ∙ ap (◌++ told_in (tell_fate (Reading.Readable h) Fresh m (fate_on o s))) (sym (none-none o))

  -- in a frame, of its FID or the other
  module _ (x : Run) (u : Seen) (us : List Seen) (k : Tracks o (Under x) (u ∷ us)) (fit : Fit o.frame (Under x)) (n : hands_by (Under x) o h ≡ false) where
    under-on : goes_on h (u ∷ us) ≡ true → Told (Under x) (u ∷ us)
    unfolding if_else
    under-on e small =
        let r : List Seen = u ∷ us in
        let s : List Seen = and r (seen_with h d b) in
        let g : same_of x.fid h.fid ≡ true = same-run x.fid u h.fid k.0 ∙ e in
        let j : Joins o (Under x) h.fid r = record {
          going = k.1.going;
          bytes = rw g k.1.bytes₀;
          stamp = rw g k.1.stamp₀;
        } in
        rw e
        (append-nil (ending_from o true true s)
        ∙ sym (own-told o h d b (Under x) m size small r j)
        ∙ ap (◌++ told_in (tell_fate (Reading.Readable h) (Under x) m (fate_on o s))) (sym (under_none o r k.1.going)))

    turned-why : goes_on h (u ∷ us) ≡ false → turned_in o (u ∷ us) ≡ Some (why_of x.fault (turned_why o))
    unfolding if_else
    turned-why e =
        let z = (turn-right o h d b (Under x) (u ∷ us) k fit n).ended in
        sym (rw (e, same-run x.fid u h.fid k.0 ∙ e) at z)

    under-off : goes_on h (u ∷ us) ≡ false → Told (Under x) (u ∷ us)
    unfolding if_else
    under-off e small =
        let r : List Seen = u ∷ us in
        let s : List Seen = seen_with h d b ∷ [] in
        let w : Reason = why_of x.fault (turned_why o) in
        let g : same_of x.fid h.fid ≡ false = same-run x.fid u h.fid k.0 ∙ e in
        let j : Joins o (Under x) h.fid [] = record {
          going = refl;
          bytes = rw g;
          stamp = rw g;
        } in
        rw (e, turned-why e)
        (ap (ending_from o true false r ++◌) (append-nil (ending_from o true true s) ∙ sym (own-told o h d b (Under x) m size small [] j))
        ∙ ap (◌++ told_in (tell_fate (Reading.Readable h) (Under x) m (fate_on o s)))
        (part-ending o true false u us w k.1.going (turned-why e)
        ∙ ap (λ (l : ℕ). ending_as (How.Dropped w) l (first_stamp r) ∷ []) (sym k.1.bytes₀)
        ∙ ap (λ (z : Stamp). ending_as (How.Dropped w) x.bytes z ∷ []) (sym k.1.stamp₀))
        ∙ ap (λ (l : List Ending). l ++ (ending_as (How.Dropped w) x.bytes x.stamp ∷ told_in (tell_fate (Reading.Readable h) (Under x) m (fate_on o s)))) (sym (under_none o r k.1.going)))

  -- after a frame, of its run's FID or the other
  module _ (f : Bool) (u : Seen) (us : List Seen) (k : Tracks o (Past f) (u ∷ us)) where
    past-on : goes_on h (u ∷ us) ≡ true → Told (Past f) (u ∷ us)
    past-on e small =
        let r : List Seen = u ∷ us in
        let t : Seen = seen_with h d b in
        rw e
        (append-nil (ending_from o true true (and r t))
        ∙ stray-same o r t k.1
        ∙ sym (append-nil (ending_from o true true r))
        ∙ ap (ending_from o true true r ++◌) (sym
        (ap (λ (ts : List Seen). told_in (tell_fate (Reading.Readable h) (Past f) m (fate_by ts (frame_entry o true true (and r t))))) (stray-more o r t k.1)
        ∙ stray-told o h d b (Past f) m size small (stray_of o r) (frame_entry o true true (and r t)))))

    past_off : goes_on h (u ∷ us) ≡ false → Told (Past f) (u ∷ us)
    past_off e small =
        let r : List Seen = u ∷ us in
        let s : List Seen = seen_with h d b ∷ [] in
        rw (e, past-ended o true false u us k.1)
        (ap (ending_from o true false r ++◌) (append-nil (ending_from o true true s)
        ∙ sym (own-told o h d b (Past f) m size small [] (record { going = refl; bytes = refl; stamp = refl })))
        ∙ ap (◌++ told_in (tell_fate (Reading.Readable h) (Past f) m (fate_on o s))) (closed-any o true false r k.1))

  -- A READABLE TRANSFER ends what is told
  pub read-ends : (ph : Phase) (r : List Seen) → Tracks o ph r → Fit o.frame ph → hands_by ph o h ≡ false → Told ph r
  read-ends Fresh r k fit n = subst (Told Fresh) (sym k) fresh-ends
  read-ends (Under x) [] k fit n = absurd k.0
  read-ends (Under x) (u ∷ us) k fit n = go (goes_on h (u ∷ us)) refl
    where
      go : (c : Bool) → goes_on h (u ∷ us) ≡ c → Told (Under x) (u ∷ us)
      go true e = under-on x u us k fit n e
      go false e = under-off x u us k fit n e
  read-ends (Past f) [] k fit n = absurd k.0
  read-ends (Past f) (u ∷ us) k fit n = go (goes_on h (u ∷ us)) refl
    where
      go : (c : Bool) → goes_on h (u ∷ us) ≡ c → Told (Past f) (u ∷ us)
      go true e = past-on f u us k e
      go false e = past_off f u us k e
