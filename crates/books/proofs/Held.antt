-- With one buffer that nobody else writes: as long as the frame under way has no fault, the buffer begins with its data.
use Rattle.std.specs.Prelude.{None, Some}
use Rattle.session_rules.specs.Options.{Fault}
use Prim.Native.Nat.{ℕ, ◌+◌, ◌≤◌}
use mathlib.Core.Path.{◌≡◌, refl, sym, ◌∙◌, ap, subst}
use mathlib.Core.Bool.{Bool, true, false, cond, true≢false}
use mathlib.Core.List.{List, [], ◌∷◌, ◌++◌}
use native.Mathlib.Omega.{arith}
use lib.ListN.{length, take, length-append}
use lib.Seq.{paste, length-paste, take-paste}
use lib.Dec.{ltb}
use borrow.Author.Tests.{ltb-false}
use Rattle.sizes.specs.declared.Opening.{Opening}
use Rattle.session_rules.specs.declared.Header.{Header}
use Rattle.session_rules.specs.declared.Reason.{Reason}
use Rattle.session_rules.specs.declared.Reason.TheVariants.{Gap, Error, Clock, Mixed, Long}
use Rattle.books.specs.Rule.{Seen, same, frame_of, stray_of, closed, data_of, first_stamp, still_of, ◌or◌, when, differs, mixes, fault_at, gap_after, fault}
use Rattle.books.specs.Answer.{earlier, written_by, written_in}
use Rattle.books.proofs.OneMore.{seen_with, spoil_last, mark_last, grown}
use Rattle.books.proofs.Grown.{and, frame-whole, stray-whole, frame-more, stray-none, stray-more, earlier_more, data-more, so_far, fault-more, closed-spoilt, fault-spoilt, closed-marked}

-- the buffer begins with the data of a run that nothing closes and that has no fault yet
abbrev pub Held : Opening → List Seen → List ℕ → Type 0
Held o r B = closed o r ≡ false → fault o r ≡ None → take (length (data_of r)) B ≡ data_of r

-- what a run's last transfer leaves: a frame without fault that it is the last of, complete or not, stands at the buffer's beginning
pub record Left (o : Opening) (r : List Seen) (B : List ℕ) : Type 0 where
  pub frame : stray_of o r ≡ [] → fault o (frame_of o r) ≡ None → take (length (data_of (frame_of o r))) B ≡ data_of (frame_of o r)
  pub room : o.frame ≤ length B

-- ---- no fault of two is no fault of either
sound-first : (p q : Fault) → p or q ≡ None → p ≡ None
sound-first None q e = refl
sound-first (Some w) q e = cc

sound-second : (p q : Fault) → p or q ≡ None → q ≡ None
sound-second None q e = e
sound-second (Some w) q e = cc

sound-when : (b : Bool) (w : Reason) → when b w ≡ None → b ≡ false
sound-when true w e = cc
sound-when false w e = refl

take_all : (d : List ℕ) → take (length d) d ≡ d
take_all [] = refl
take_all (x ∷ d) = ap (x ∷◌) (take_all d)

module _ (o : Opening) (h : Header) (d : List ℕ) (b : Bool) (B : List ℕ) (room₀ : o.frame ≤ length B) where
  abbrev t : Seen
  t = seen_with h d b

  -- a frame that goes on, or begins, without fault
  module _ (r : List Seen) (going : closed o r ≡ false) (held : so_far o t r ≡ None → take (length (data_of r)) B ≡ data_of r) where
    abbrev at : ℕ
    at = length (data_of r)

    abbrev own : Fault
    own = fault_at o (first_stamp (and r t)) (still_of (and r t)) at h (length d)

    module _ (sound : fault o (and r t) ≡ None) where
      parts : so_far o t r or (own or when (gap_after o t) Gap) ≡ None
      parts = sym (fault-more o r t) ∙ sound

      before : take at B ≡ data_of r
      before = held (sound-first (so_far o t r) _ parts)

      fits : at + length d ≤ o.frame
      fits = ltb-false o.frame (at + length d) (sound-when (ltb o.frame (at + length d)) Long (sound-second (when (mixes (still_of (and r t)) h.still) Mixed) _ (sound-second (when (differs (first_stamp (and r t)) h.stamp) Clock) _ (sound-second (when h.error Error) _ (sound-first own _ (sound-second (so_far o t r) _ parts))))))

      pasted : take (length (data_of (and r t))) (paste B at d (length d)) ≡ data_of (and r t)
      pasted =
          ap (λ (l : List ℕ). take (length l) (paste B at d (length d))) (data-more r t)
          ∙ ap (λ (k : ℕ). take k (paste B at d (length d))) (length-append (data_of r) d)
          ∙ take-paste B at d (length d) (omega (arith, fits)) (omega arith)
          ∙ ap (◌++ take (length d) d) before
          ∙ ap (data_of r ++◌) (take_all d)
          ∙ sym (data-more r t)

      long : length (paste B at d (length d)) ≡ length B
      long = length-paste B at d (length d) (omega (arith, fits)) (omega arith)

    written : written_in o (and r t) d B ≡ written_by [] (fault o (and r t)) at d B
    written =
        ap (λ (ts : List Seen). written_by ts (fault o (frame_of o (and r t))) (length (data_of (earlier (frame_of o (and r t))))) d B) (stray-none o r t going)
        ∙ ap (λ (f : List Seen). written_by [] (fault o f) (length (data_of (earlier f))) d B) (frame-more o r t going)
        ∙ ap (λ (l : List Seen). written_by [] (fault o (and r t)) (length (data_of l)) d B) (earlier_more r t)

    put : (q : Fault) → fault o (and r t) ≡ q
        → (fault o (and r t) ≡ None → take (length (data_of (and r t))) (written_by [] q at d B) ≡ data_of (and r t)) × (o.frame ≤ length (written_by [] q at d B))
    put None e = (λ f. pasted f, rw (long e) room₀)
    put (Some w) e = (λ f. cc, room₀)

    joined : Left o (and r t) (written_in o (and r t) d B)
    joined =
        let z = put (fault o (and r t)) refl in
        record {
          frame = λ u f. rw (written, frame-more o r t going) (z.0 (ap (fault o) (sym (frame-more o r t going)) ∙ f));
          room = rw written z.1;
        }

  stray : (r : List Seen) → closed o r ≡ true → Left o (and r t) (written_in o (and r t) d B)
  stray r e = record {
    frame = λ u f. absurd (none (stray_of o r) (sym (stray-more o r t e) ∙ u));
    room = rw (stray-more o r t e) (go (stray_of o r));
  }
    where
      none : (ts : List Seen) → and ts t ≡ [] → ⊥
      none [] q = let z : ◌≡◌ {A = ℕ} 0 1 = cc in omega arith
      none (u ∷ us) q = let z : ◌≡◌ {A = ℕ} 0 1 = cc in omega arith

      go : (ts : List Seen) → o.frame ≤ length (written_by (and ts t) (fault o (frame_of o (and r t))) (length (data_of (earlier (frame_of o (and r t))))) d B)
      go [] = room₀
      go (u ∷ us) = room₀

  pub grown-left : (r : List Seen) → Held o r B → Left o (grown r t) (written_in o (grown r t) d B)
  grown-left [] held = joined [] refl (λ e. refl)
  grown-left (u ∷ us) held = go (same u t)
    where
      on : (c : Bool) → closed o (u ∷ us) ≡ c → Left o (and (u ∷ us) t) (written_in o (and (u ∷ us) t) d B)
      on true e = stray (u ∷ us) e
      on false e = joined (u ∷ us) e (held e)

      go : (c : Bool) → Left o (cond c (and (u ∷ us) t) (t ∷ [])) (written_in o (cond c (and (u ∷ us) t) (t ∷ [])) d B)
      go true = on (closed o (u ∷ us)) refl
      go false = joined [] refl (λ e. refl)

-- what is left is held
pub left-held : (o : Opening) (r : List Seen) (B : List ℕ) → Left o r B → Held o r B
left-held o r B l e f = subst (λ (g : List Seen). take (length (data_of g)) B ≡ data_of g) (frame-whole o r e) (l.frame (stray-whole o r e) (ap (fault o) (frame-whole o r e) ∙ f))

pub spoilt-held : (o : Opening) (r : List Seen) (B : List ℕ) → Held o r B → Held o (spoil_last r) B
spoilt-held o [] B held = held
spoilt-held o (u ∷ us) B held = λ e f. cc (sound-second (fault o (u ∷ us)) (Some Gap) (sym (fault-spoilt o u us (sym (closed-spoilt o (u ∷ us)) ∙ e)) ∙ f))

-- after a mark nothing is held: the frame is handed out
pub marked-held : (o : Opening) (r : List Seen) (B : List ℕ) → Held o (mark_last r) B
marked-held o [] B = λ e f. refl
marked-held o (u ∷ us) B = λ e f. absurd (true≢false (sym (closed-marked o u us) ∙ e))
