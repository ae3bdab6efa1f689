-- A configuration is laid out as it must be exactly when none of 70, 71, 72 and 75 is broken, and refused by k at o exactly when k is the first of them, at its
-- first place.
use Prim.Native.Nat.{ℕ, zero, suc, ◌≤◌, ◌<◌}
use mathlib.Core.Path.{◌≡◌, refl, sym, ◌∙◌}
use mathlib.Core.List.{List, [], ◌∷◌}
use mathlib.Core.Bool.{Bool, true, false}
use mathlib.Core.Logic.{◌⊎◌, inl, inr, ⊎_elim, ◌↔◌}
use lib.ListN.{length, get_or}
use lib.Dec.{ltb, eqb}
use borrow.Author.Tests.{lt-ltb, le-ltb, ltb-true, ltb-false, eq-eqb, ne_eqb, eqb-true, eqb-false}
use native.Mathlib.Omega.{arith}
use Rattle.le.specs.Le.{le16_at}
use Rattle.rules.specs.IfElse.{if_else}
use Rattle.rules.specs.Verdicts.{◌and_then◌, Verdict, accept, refuse}
use Rattle.rules.specs.Walk.{Outcome, stop, Clean, FirstBreak}
use Rattle.rules.proofs.Firsts.{lt-or-ge}
use Rattle.rules.proofs.Rows.{given-none}
use Rattle.rules.proofs.Verdicts.{apart, same-refusal}
use Rattle.rules.proofs.Walks.{walk-done, walk-stop}
use Rattle.configuration_rules.specs.Descriptors.{configuration_type, type_at}
use Rattle.configuration_rules.specs.declared.Sought.TheVariants.{Broken, Control}
use Rattle.configuration_rules.specs.Words.{ControlFirst}
use Rattle.configuration_rules.proofs.Deciding.{control}
use Rattle.interfaces.specs.Line.{course}
use Rattle.interfaces.specs.Inner.{line, found, next_of, first_too_many, too_many}
use Rattle.configuration_layout.specs.Broken.{bytes_least, bytes_most, Whole, Kept-70-71, OneControl, SecondControl, Laid, FirstMislaid, by-70-whole, by-70, by-71, by-72-none, by-72-second, by-75}
use Rattle.configuration_layout.specs.Inner.{verdict70, verdict71, controls_verdict, verdict72, verdict75, layout_verdict}
use Rattle.configuration_layout.specs.Words.{Starts, Lists, FirstTooMany, NoneTooMany}
use Rattle.configuration_layout.proofs.Walked.{steady, walk-line, lists}
use Rattle.configuration_layout.proofs.Few.{first-there, none-there, end-there, one-first}

module _ (s : List ℕ) where
  -- ---- 70
  past-whole : Whole s → verdict70 s ≡ if_else (ltb (next_of Broken s 0) (length s)) (refuse 70 (next_of Broken s 0)) accept
  unfolding verdict70 if_else
  past-whole w = rw (le-ltb (length s) bytes_least w.least, le-ltb bytes_most (length s) w.most, eq-eqb (type_at s 0) configuration_type w.first)

  -- the whole is right, or it is refused at 0
  whole-or : Whole s ⊎ ((Whole s → ⊥) × (verdict70 s ≡ refuse 70 0))
  unfolding verdict70 if_else
  whole-or = go (ltb (length s) bytes_least) refl (ltb bytes_most (length s)) refl (eqb (type_at s 0) configuration_type) refl
    where
      go : (a : Bool) → ltb (length s) bytes_least ≡ a → (b : Bool) → ltb bytes_most (length s) ≡ b → (c : Bool) → eqb (type_at s 0) configuration_type ≡ c
          → Whole s ⊎ ((Whole s → ⊥) × (if_else a (refuse 70 0) (if_else b (refuse 70 0) (if_else c (if_else (ltb (next_of Broken s 0) (length s)) (refuse 70 (next_of Broken s 0)) accept) (refuse 70 0))) ≡ refuse 70 0))
      go true x b y c z = inr (λ w. (let l = ltb-true (length s) bytes_least x in omega (arith, w.least)), refl)
      go false x true y c z = inr (λ w. (let l = ltb-true bytes_most (length s) y in omega (arith, w.most)), refl)
      go false x false y true z = inl (record { least = ltb-false (length s) bytes_least x; most = ltb-false bytes_most (length s) y; first = eqb-true (type_at s 0) configuration_type z })
      go false x false y false z = inr (λ w. eqb-false (type_at s 0) configuration_type z w.first, refl)

  abbrev b : ℕ
  b = next_of Broken s 0

  break-there : b < length s → FirstBreak (course s) 70 b
  unfolding if_else
  break-there h = (walk-stop (course s) (steady s) 70 b).0 (walk-line s ∙ (rw (lt-ltb b (length s) h)))

  no-break : length s ≤ b → Clean (course s)
  unfolding if_else
  no-break h = ((walk-done (course s) (steady s) (line s 0)).0 (walk-line s ∙ (rw (le-ltb b (length s) h)))).1

  clean-none : Clean (course s) → length s ≤ b
  clean-none c = ⊎_elim (λ h. let f = break-there h in absurd (given-none f.given (c f.seen b f.there f.inside))) (λ h. h) (lt-or-ge b (length s))

  break-is : (o : ℕ) → FirstBreak (course s) 70 o → (b < length s) × (b ≡ o)
  unfolding if_else
  break-is o f = ⊎_elim there (λ h. absurd (given-none f.given (no-break h f.seen o f.there f.inside))) (lt-or-ge b (length s))
    where
      there : b < length s → (b < length s) × (b ≡ o)
      there h =
          let e : ◌≡◌ {A = Outcome (List ℕ)} (stop 70 b) (stop 70 o) = sym (walk-line s ∙ (rw (lt-ltb b (length s) h))) ∙ (walk-stop (course s) (steady s) 70 o).1 f in
          (h, cc)

  right-70 : Whole s → Clean (course s) → verdict70 s ≡ accept
  unfolding if_else
  right-70 w c = past-whole w ∙ (rw (le-ltb b (length s) (clean-none c)))

  data Ends70 : Verdict → Type 0 where
    right : Whole s → Clean (course s) → Ends70 accept
    whole : (Whole s → ⊥) → Ends70 (refuse 70 0)
    break : (o : ℕ) → Whole s → FirstBreak (course s) 70 o → Ends70 (refuse 70 o)

  ends-70 : Ends70 (verdict70 s)
  unfolding if_else
  ends-70 =
      ⊎_elim
      (λ w. ⊎_elim (λ h. rw (past-whole w, lt-ltb b (length s) h) (break b w (break-there h))) (λ h. rw (past-whole w, le-ltb b (length s) h) (right w (no-break h))) (lt-or-ge b (length s)))
      (λ w. rw w.1 (whole w.0)) whole-or

  -- ---- 71
  right-71 : le16_at s 2 ≡ length s → verdict71 s ≡ accept
  unfolding verdict71 if_else
  right-71 h = rw (eq-eqb (le16_at s 2) (length s) h)

  wrong-71 : (le16_at s 2 ≡ length s → ⊥) → verdict71 s ≡ refuse 71 0
  unfolding verdict71 if_else
  wrong-71 h = rw (ne_eqb (le16_at s 2) (length s) h)

  total-or : (le16_at s 2 ≡ length s) ⊎ (le16_at s 2 ≡ length s → ⊥)
  total-or = go (eqb (le16_at s 2) (length s)) refl
    where
      go : (t : Bool) → eqb (le16_at s 2) (length s) ≡ t → (le16_at s 2 ≡ length s) ⊎ (le16_at s 2 ≡ length s → ⊥)
      go true e = inl (eqb-true (le16_at s 2) (length s) e)
      go false e = inr (eqb-false (le16_at s 2) (length s) e)

  -- ---- 72
  data Controls : Verdict → Type 0 where
    nobody : ((o : ℕ) → Starts s o → ControlFirst s o → ⊥) → Controls (refuse 72 0)
    only : (o : ℕ) → OneControl s o → Controls accept
    second : (o : ℕ) → SecondControl s o → Controls (refuse 72 o)

  controls-are : (l : List ℕ) → Lists s (ControlFirst s) l → Controls (controls_verdict l)
  unfolding controls_verdict
  controls-are [] w = nobody (λ o x c. let i = w.all o x c in omega (arith, i.1))
  controls-are (o ∷ []) w =
      let e = w.each 0 (omega arith) in
      only o (record { starts = e.0; control = e.1; only = λ p x c. let i = w.all p x c in sole i.0 i.1 p i.2 })
    where
      sole : (i : ℕ) → i < 1 → (p : ℕ) → get_or (o ∷ []) i 0 ≡ p → p ≡ o
      sole zero h p e = sym e
      sole (suc i) h p e = absurd (omega arith)
  controls-are (o ∷ (p ∷ l)) w =
      let e = w.each 0 (omega arith) in
      let f = w.each 1 (omega arith) in
      second p (record {
        starts = f.0;
        control = f.1;
        other = o;
        other-starts = e.0;
        other-control = e.1;
        behind = w.order 0 1 (omega arith) (omega arith);
        between = λ q x c h. let i = w.all q x c in sole i.0 i.1 q i.2 h;
      })
    where
      sole : (i : ℕ) → i < suc (suc (length l)) → (q : ℕ) → get_or (o ∷ (p ∷ l)) i 0 ≡ q → q < p → q ≡ o
      sole zero h q e k = sym e
      sole (suc zero) h q e k = absurd (omega arith)
      sole (suc (suc i)) h q e k = absurd (omega (arith, w.order 1 (suc (suc i)) (omega arith) h))

  two-same : (a c : ℕ) → SecondControl s a → SecondControl s c → a < c → ⊥
  two-same a c f g h =
      let x = g.between a f.starts f.control h in
      let y = g.between f.other f.other-starts f.other-control (omega (arith, f.behind)) in
      omega (arith, f.behind)

  controls-one : (v w : Verdict) → Controls v → Controls w → v ≡ w
  controls-one v w (nobody n) (nobody m) = refl
  controls-one v w (nobody n) (only o c) = absurd (n o c.starts c.control)
  controls-one v w (nobody n) (second o c) = absurd (n o c.starts c.control)
  controls-one v w (only p d) (nobody m) = absurd (m p d.starts d.control)
  controls-one v w (only p d) (only o c) = refl
  controls-one v w (only p d) (second o c) = absurd (omega (arith, d.only o c.starts c.control, d.only c.other c.other-starts c.other-control, c.behind))
  controls-one v w (second p d) (nobody m) = absurd (m p d.starts d.control)
  controls-one v w (second p d) (only o c) = absurd (omega (arith, c.only p d.starts d.control, c.only d.other d.other-starts d.other-control, d.behind))
  controls-one v w (second p d) (second o c) =
      ⊎_elim (λ h. absurd (two-same p o d c h)) (λ h. ⊎_elim (λ k. absurd (two-same o p c d k)) (λ k. let e : p ≡ o = omega arith in rw e) (lt-or-ge o p)) (lt-or-ge p o)

  -- ---- 75
  data Ends75 : Verdict → Type 0 where
    few : NoneTooMany s → Ends75 accept
    many : (o : ℕ) → FirstTooMany s o → Ends75 (refuse 75 o)

  module _ (c : Clean (course s)) where
    controls-here : Controls (verdict72 s)
    controls-here = controls-are (found Control s 0) (lists s c Control (ControlFirst s) (control s))

    is-72 : (v : Verdict) → Controls v → verdict72 s ≡ v
    is-72 v k = controls-one (verdict72 s) v controls-here k

    ends-75 : Ends75 (verdict75 s)
    unfolding verdict75 if_else
    ends-75 =
        ⊎_elim (λ h. let f = first-there s c h in rw (lt-ltb (too_many s) (length s) f.inside) (many (too_many s) f))
        (λ h. let z : length s ≤ too_many s = omega (arith, end-there s c h) in rw (le-ltb (too_many s) (length s) z) (few (none-there s c h)))
        (lt-or-ge (first_too_many s) (length (line s 0)))

    one-75 : (v w : Verdict) → Ends75 v → Ends75 w → v ≡ w
    one-75 v w (few n) (few m) = refl
    one-75 v w (few n) (many o f) = absurd (n f.before o f.there f.inside f.broken)
    one-75 v w (many p g) (few m) = absurd (m g.before p g.there g.inside g.broken)
    one-75 v w (many p g) (many o f) = rw (one-first s p o g f)

    is-75 : (v : Verdict) → Ends75 v → verdict75 s ≡ v
    is-75 v k = one-75 (verdict75 s) v ends-75 k

  -- ---- together
  data Ends : Verdict → Type 0 where
    good : (o : ℕ) → Laid s o → Ends accept
    bad : (k o : ℕ) → FirstMislaid s k o → Ends (refuse k o)

  after-72 : Kept-70-71 s → (v : Verdict) → Controls v → (w : Verdict) → Ends75 w → Ends (v and_then w)
  after-72 k v (nobody n) w e = bad 72 0 (by-72-none k n)
  after-72 k v (second o c) w e = bad 72 o (by-72-second o k c)
  after-72 k v (only o c) w (few n) = good o (record { kept = k; one = c; few = n })
  after-72 k v (only o c) w (many p f) = bad 75 p (by-75 p o k c f)

  after-70 : (v : Verdict) → Ends70 v → Ends (v and_then (verdict71 s and_then (verdict72 s and_then verdict75 s)))
  after-70 v (whole n) = bad 70 0 (by-70-whole n)
  after-70 v (break o w f) = bad 70 o (by-70 o w f)
  after-70 v (right w c) =
      ⊎_elim (λ t. rw (right-71 t) (after-72 (record { whole = w; each = c; total = t }) (verdict72 s) (controls-here c) (verdict75 s) (ends-75 c)))
      (λ n. rw (wrong-71 n) (bad 71 0 (by-71 w c n))) total-or

  ends : Ends (layout_verdict s)
  unfolding layout_verdict
  ends = after-70 (verdict70 s) ends-70

  kept_gives : Kept-70-71 s → layout_verdict s ≡ verdict72 s and_then verdict75 s
  unfolding layout_verdict
  kept_gives k = rw (right-70 k.whole k.each, right-71 k.total)

  laid-gives : (o : ℕ) → Laid s o → layout_verdict s ≡ accept
  laid-gives o l = kept_gives l.kept ∙ (rw (is-72 l.kept.each accept (only o l.one), is-75 l.kept.each accept (few l.few)))

  mislaid-gives : {k o : ℕ} → FirstMislaid s k o → layout_verdict s ≡ refuse k o
  unfolding layout_verdict if_else
  mislaid-gives (by-70-whole n) = ⊎_elim (λ w. absurd (n w)) (λ w. rw w.1) whole-or
  mislaid-gives (by-70 o w f) = let e = break-is o f in rw (past-whole w, lt-ltb b (length s) e.0, e.1)
  mislaid-gives (by-71 w c n) = rw (right-70 w c, wrong-71 n)
  mislaid-gives (by-72-none k n) = kept_gives k ∙ (rw (is-72 k.each (refuse 72 0) (nobody n)))
  mislaid-gives (by-72-second o k c) = kept_gives k ∙ (rw (is-72 k.each (refuse 72 o) (second o c)))
  mislaid-gives (by-75 o c k one f) = kept_gives k ∙ (rw (is-72 k.each accept (only c one), is-75 k.each (refuse 75 o) (many o f)))

  -- EXACTLY WHEN
  pub laid : (layout_verdict s ≡ accept) ↔ ((o : ℕ) × Laid s o)
  laid = (to (layout_verdict s) ends, λ p. laid-gives p.0 p.1)
    where
      to : (v : Verdict) → Ends v → v ≡ accept → (o : ℕ) × Laid s o
      to v (good o l) e = (o, l)
      to v (bad k o f) e = absurd (apart k o e)

  pub mislaid : (k o : ℕ) → (layout_verdict s ≡ refuse k o) ↔ FirstMislaid s k o
  mislaid k o = (to (layout_verdict s) ends, mislaid-gives)
    where
      to : (v : Verdict) → Ends v → v ≡ refuse k o → FirstMislaid s k o
      to v (good p l) e = absurd (apart k o (sym e))
      to v (bad j p f) e = let q = same-refusal j p k o e in rw (← q.0, ← q.1) f
