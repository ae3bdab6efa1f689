-- With D1 clear no frame is passed over: one without fault and with data, whose run is not the last, has its mark.
use Rattle.std.specs.Prelude.{None}
use Rattle.session_rules.specs.Options.{Fault}
use Prim.Native.Nat.{ℕ}
use mathlib.Core.Path.{◌≡◌, refl, sym, ◌∙◌}
use mathlib.Core.Bool.{Bool, true, false, cond, not, ◌&&◌, true≢false}
use mathlib.Core.List.{List, [], ◌∷◌, ◌++◌}
use native.Mathlib.Omega.{arith}
use lib.ListN.{length}
use lib.Dec.{eqb}
use borrow.Author.Tests.{ne_eqb}
use Rattle.sizes.specs.declared.Opening.{Opening}
use Rattle.sizes.specs.Framing.{by_eof}
use Rattle.session_rules.specs.declared.Header.{Header}
use Rattle.session_rules.specs.declared.Phase.{Phase}
use Rattle.session_rules.specs.declared.Phase.TheVariants.{Fresh, Under, Past}
use Rattle.session_rules.specs.Turns.{hands_by}
use Rattle.books.specs.Rule.{Seen, same, frame_of, closed, data_of, fault}
use Rattle.books.specs.Answer.{last_of, is_sound, hands_in}
use Rattle.books.specs.HandedOut.{marked_in, HasMark, Passed}
use Rattle.books.proofs.OneMore.{seen_with, on_runs, added_to}
use Rattle.books.proofs.Tracked.{Tracks, hands-right}

-- with D1 clear only a mark closes a run
pub closed-marks : (o : Opening) → by_eof o ≡ false → (r : List Seen) → closed o r ≡ marked_in r
closed-marks o e [] = refl
closed-marks o e (t ∷ ts) = rw (e, closed-marks o e ts)

-- all that a hand-out asks
pub every : (a b c : Bool) (q : Fault) (k : Bool) → a ≡ false → b ≡ false → c ≡ false → q ≡ None → k ≡ false → (not a && (not b && (not c && (is_sound q && not k)))) ≡ true
every a b c q k e f g h i = rw (e, f, g, h, i)

module _ (o : Opening) where
  before-passed : (r : List Seen) (rs : List (List Seen)) → HasMark o r → Passed o rs → Passed o (r ∷ rs)
  before-passed r [] h p = tt
  before-passed r (q ∷ rs) h p = (h, p)

  -- the last run changed, or grown, or another after it
  pub changed-passed : (f : Seen → Seen) (rs : List (List Seen)) → Passed o rs → Passed o (on_runs f rs)
  changed-passed f [] p = tt
  changed-passed f (r ∷ []) p = tt
  changed-passed f (r ∷ (q ∷ rs)) p = before-passed r (on_runs f (q ∷ rs)) p.0 (changed-passed f (q ∷ rs) p.1)

  pub added-passed : (rs : List (List Seen)) (t : Seen) → Passed o rs → ((u : Seen) (us : List Seen) → last_of rs ≡ u ∷ us → same u t ≡ false → HasMark o (u ∷ us))
      → Passed o (added_to rs t)
  added-passed [] t p h = tt
  added-passed ([] ∷ []) t p h = tt
  added-passed ((u ∷ us) ∷ []) t p h = go (same u t) refl
    where
      go : (b : Bool) → same u t ≡ b → Passed o (cond b ((u ∷ (us ++ (t ∷ []))) ∷ []) ((u ∷ us) ∷ (t ∷ []) ∷ []))
      go true e = tt
      go false e = (h u us refl e, tt)
  added-passed (r ∷ (q ∷ rs)) t p h = before-passed r (added_to (q ∷ rs) t) p.0 (added-passed (q ∷ rs) t p.1 h)

  -- a run that a transfer of the other FID ends, and that was not handed out just before it
  pub turned-marked : by_eof o ≡ false → (h : Header) (d : List ℕ) (b : Bool) (ph : Phase) (u : Seen) (us : List Seen) → Tracks o ph (u ∷ us) → hands_by ph o h ≡ false
      → same u (seen_with h d b) ≡ false → HasMark o (u ∷ us)
  turned-marked c h d b Fresh u us e n s = let z : ◌≡◌ {A = ℕ} 0 1 = cc in absurd (omega arith)
  turned-marked c h d b (Past f) u us e n s = λ q v. sym (closed-marks o c (u ∷ us)) ∙ e.1
  turned-marked c h d b (Under x) u us e n s = λ q v. absurd (true≢false (sym (all q v) ∙ sym (hands-right o h (Under x) (u ∷ us) e) ∙ n))
    where
      all : fault o (frame_of o (u ∷ us)) ≡ None → (length (data_of (frame_of o (u ∷ us))) ≡ 0 → ⊥) → hands_in o h (u ∷ us) ≡ true
      all q v =
          let f : List Seen = frame_of o (u ∷ us) in
          every (by_eof o) (same u (seen_with h d b)) (closed o (u ∷ us)) (fault o f) (eqb (length (data_of f)) 0) c s e.1.going q (ne_eqb (length (data_of f)) 0 v)
