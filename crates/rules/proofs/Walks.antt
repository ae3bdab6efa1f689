-- A walk ends with all that the descriptors give exactly when none breaks a rule, and stops at (k, o) exactly when rule k is the first that is broken
-- at the first descriptor that breaks one.
use Prim.Native.Nat.{ℕ, zero, suc, ◌+◌, ◌≤◌, ◌<◌}
use mathlib.Core.Path.{◌≡◌, refl, sym, ◌∙◌}
use mathlib.Core.Bool.{true}
use mathlib.Core.Logic.{◌⊎◌, inl, inr, ⊎_elim, ◌↔◌}
use native.Mathlib.Omega.{arith}
use native.Mathlib.Decide.{dec_lt}
use borrow.Author.Tests.{lt-ltb, le-ltb}
use Rattle.rules.specs.Numbered.{NoneOf, Given, rows_before, is_broken}
use Rattle.rules.specs.Walk.{Course, Reached, first, next, Clean, FirstBreak, BrokenBy, Outcome, done, stop, broken_at, walk_from, walk}
use Rattle.rules.proofs.Rows.{Numbered, Once, once_after, row_first, row-none, none_row, given-none, given-row, given-number, given_by}

-- what a course must have: no rule has number 0, and a descriptor that breaks none has a length and lies within the block
pub record Steady {A : Type 0} (c : Course A) : Type 0 where
  pub numbered : (a : A) (o : ℕ) → Numbered (c.rows a o)
  pub onward : (a : A) (o : ℕ) → o < c.size → NoneOf (c.rows a o) → 0 < c.len o
  pub inside : (a : A) (o : ℕ) → o < c.size → NoneOf (c.rows a o) → o + c.len o ≤ c.size

module _ {A : Type 0} (c : Course A) where
  -- ---- one step
  pub step-done : (f : ℕ) (a : A) (o : ℕ) → c.size ≤ o → walk_from f c a o ≡ done a
  unfolding walk_from
  step-done zero a o h = refl
  step-done (suc f) a o h = rw (le-ltb o c.size h)

  pub step-bad : (f : ℕ) (a : A) (o k : ℕ) → o < c.size → c.size ≤ o + f → broken_at c a o ≡ suc k → walk_from f c a o ≡ stop (suc k) o
  unfolding walk_from
  step-bad zero a o k h l e = absurd (omega arith)
  step-bad (suc f) a o k h l e = rw (lt-ltb o c.size h, e)

  pub step-on : (f : ℕ) (a : A) (o : ℕ) → o < c.size → c.size ≤ o + suc f → broken_at c a o ≡ 0 → walk_from (suc f) c a o ≡ walk_from f c (c.gather a o) (o + c.len o)
  unfolding walk_from
  step-on f a o h l e = rw (lt-ltb o c.size h, e)

  -- ---- the invariant of a loop that walks: from here on the walk comes to what the whole walk comes to
  pub record Walking (a : A) (o : ℕ) : Type 0 where
    pub fuel : ℕ
    pub enough : c.size ≤ o + fuel
    pub same : walk_from fuel c a o ≡ walk c
    pub within : o ≤ c.size
    pub there : Reached c a o

  pub starts : Walking c.start 0
  unfolding walk
  starts = record { fuel = c.size; enough = omega arith; same = refl; within = omega arith; there = first }

  module _ (a : A) (o : ℕ) (w : Walking a o) where
    pub stops : (k : ℕ) → o < c.size → broken_at c a o ≡ k → (k ≡ 0 → ⊥) → walk c ≡ stop k o
    stops zero h e n = absurd (n refl)
    stops (suc k) h e n = sym w.same ∙ step-bad w.fuel a o k h w.enough e

    pub ends : c.size ≤ o → walk c ≡ done a
    ends h = sym w.same ∙ step-done w.fuel a o h

    module _ (d : Steady c) (h : o < c.size) (e : NoneOf (c.rows a o)) where
      on : (f : ℕ) → w.fuel ≡ f → (g : ℕ) × (c.size ≤ o + c.len o + g) × (walk_from g c (c.gather a o) (o + c.len o) ≡ walk c)
      on zero q = absurd (omega (arith, w.enough))
      on (suc g) q = (
        g,
        omega (arith, w.enough, d.onward a o h e),
        sym (step-on g a o h (omega (arith, w.enough)) (none_row (c.rows a o) e)) ∙ (rw q at w.same),
      )

      pub goes : Walking (c.gather a o) (o + c.len o)
      goes =
          let r = on w.fuel refl in
          record { fuel = r.0; enough = r.1; same = r.2; within = d.inside a o h e; there = next w.there h (d.onward a o h e) (d.inside a o h e) }

  -- ---- every place that is reached before the walk stops is walked by
  module _ (d : Steady c) (limit : ℕ) (late : (k o : ℕ) → o < limit → walk c ≡ stop (suc k) o → ⊥) where
    calm : (a : A) (o : ℕ) → o < limit → o < c.size → Walking a o → (k : ℕ) → broken_at c a o ≡ k → NoneOf (c.rows a o)
    calm a o l h w zero e = row-none (c.rows a o) (d.numbered a o) e
    calm a o l h w (suc k) e = absurd (late k o l (stops a o w (suc k) h e (λ z. omega arith)))

    passing : {a : A} {o : ℕ} → Reached c a o → o ≤ limit → Walking a o
    passing first l = starts
    passing (next {a = a} {o = o} r h p q) l =
        let w = passing r (omega arith) in
        goes a o w d h (calm a o (omega arith) h w (broken_at c a o) refl)

    clean-before : (a : A) (o : ℕ) → Reached c a o → o < limit → o < c.size → NoneOf (c.rows a o)
    clean-before a o r l h = calm a o l h (passing r (omega arith)) (broken_at c a o) refl

  -- ---- how a walk ends
  abbrev Ends : Outcome A → Type 0
  Ends x =
      ((a : A) × Reached c a c.size × (x ≡ done a))
      ⊎ ((a : A) × (o : ℕ) × (k : ℕ) × Reached c a o × (o < c.size) × (broken_at c a o ≡ suc k) × (x ≡ stop (suc k) o))

  at-end : (f : ℕ) (a : A) (o : ℕ) → Reached c a o → o ≡ c.size → Ends (walk_from f c a o)
  at-end f a o r e = inl (a, rw e at r, step-done f a o (omega arith))

  module _ (d : Steady c) where
    turn : (f : ℕ) (a : A) (o : ℕ) → Reached c a o → o ≤ c.size → c.size ≤ o + suc f
        → (Reached c (c.gather a o) (o + c.len o) → o + c.len o ≤ c.size → c.size ≤ o + c.len o + f → Ends (walk_from f c (c.gather a o) (o + c.len o)))
        → Dec (o < c.size) → (k : ℕ) → broken_at c a o ≡ k → Ends (walk_from (suc f) c a o)
    turn f a o r w n rec (no q) k e = at-end (suc f) a o r (omega arith)
    turn f a o r w n rec (yes h) zero e =
        let z = row-none (c.rows a o) (d.numbered a o) e in
        let p = d.onward a o h z in
        let q = d.inside a o h z in
        rw (step-on f a o h n e) (rec (next r h p q) q (omega arith))
    turn f a o r w n rec (yes h) (suc k) e = inr (a, o, k, r, h, e, step-bad (suc f) a o k h n e)

    walk-from-ends : (f : ℕ) (a : A) (o : ℕ) → Reached c a o → o ≤ c.size → c.size ≤ o + f → Ends (walk_from f c a o)
    walk-from-ends zero a o r w n = at-end zero a o r (omega arith)
    walk-from-ends (suc f) a o r w n =
        turn f a o r w n (λ x y z. walk-from-ends f (c.gather a o) (o + c.len o) x y z) (dec_lt o c.size) (broken_at c a o) refl

    walk_ends : Ends (walk c)
    unfolding walk
    walk_ends = walk-from-ends c.size c.start 0 first (omega arith) (omega arith)

    apart : (a : A) (k o : ℕ) → done a ≡ stop k o → ⊥
    apart a k o e = let z : ◌≡◌ {A = ℕ} 0 1 = cc in omega arith

    -- ---- EXACTLY WHEN
    all-clean : (a : A) → walk c ≡ done a → Clean c
    all-clean a e b o r h = clean-before d c.size (λ k o l q. apart a (suc k) o (sym e ∙ q)) b o r h h

    reached-all : (a : A) → walk c ≡ done a → Reached c a c.size
    reached-all a e =
        ⊎_elim (λ p. let q : p.0 ≡ a = cc in rw q at p.1) (λ p. absurd (apart a (suc p.2) p.1 (sym e ∙ p.6))) walk_ends

    clean_all : (a : A) → Reached c a c.size → Clean c → walk c ≡ done a
    clean_all a r h =
        ends a c.size (passing d c.size late r (omega arith)) (omega arith)
      where
        late : (k o : ℕ) → o < c.size → walk c ≡ stop (suc k) o → ⊥
        late k o l q =
            ⊎_elim (λ p. apart p.0 (suc k) o (sym p.2 ∙ q))
            (λ p. given-none ((row_first (c.rows p.0 p.1) p.2).0 p.5) (h p.0 p.1 p.3 p.4)) walk_ends

    -- a walk gives all that the descriptors give exactly when no descriptor breaks a rule
    pub walk-done : (a : A) → (walk c ≡ done a) ↔ (Reached c a c.size × Clean c)
    walk-done a = (λ e. (reached-all a e, all-clean a e), λ p. clean_all a p.0 p.1)

    to-first : (k o : ℕ) → walk c ≡ stop k o → FirstBreak c k o
    to-first k o e =
        ⊎_elim (λ p. absurd (apart p.0 k o (sym p.2 ∙ e)))
        (λ p. let s : ◌≡◌ {A = Outcome A} (stop (suc p.2) p.1) (stop k o) = sym p.6 ∙ e in
        let q : p.1 ≡ o = cc in
        let n : suc p.2 ≡ k = cc in
        rw (← q, ← n) (record {
          seen = p.0;
          there = p.3;
          inside = p.4;
          given = (row_first (c.rows p.0 p.1) p.2).0 p.5;
          earliest = λ a m r l. clean-before d p.1 (late p.2 p.1 p.6) a m r l (omega (arith, p.4));
        }))
        walk_ends
      where
        late : (j m : ℕ) → walk c ≡ stop (suc j) m → (i n : ℕ) → n < m → walk c ≡ stop (suc i) n → ⊥
        late j m q i n l w = let z : ◌≡◌ {A = Outcome A} (stop (suc j) m) (stop (suc i) n) = sym q ∙ w in let y : m ≡ n = cc in omega arith

    from_first : (k o : ℕ) → FirstBreak c k o → walk c ≡ stop k o
    from_first k o f =
        stops f.seen o (passing d o late f.there (omega arith)) k f.inside
        (given-row f.given) (λ z. omega (arith, given-number f.given (d.numbered f.seen o)))
      where
        late : (j n : ℕ) → n < o → walk c ≡ stop (suc j) n → ⊥
        late j n l q = let g = to-first (suc j) n q in given-none g.given (f.earliest g.seen n g.there l)

    -- a walk stops at rule k and place o exactly when that is the first broken rule at the first place
    pub walk-stop : (k o : ℕ) → (walk c ≡ stop k o) ↔ FirstBreak c k o
    walk-stop k o = (to-first k o, from_first k o)

  -- a descriptor's rule is the first that is broken exactly when it comes to be asked there and is broken: for every number, where none stands twice
  module _ (once : (a : A) (o : ℕ) → Once (c.rows a o)) (k o : ℕ) where
    given-there : (a : A) → Given (c.rows a o) k ↔ (NoneOf (rows_before k (c.rows a o)) × (is_broken k (c.rows a o) ≡ true))
    given-there a = given_by (c.rows a o) k (once_after (c.rows a o) (once a o) k)

    pub first_by : FirstBreak c k o ↔ BrokenBy c k o
    first_by = (to, from)
      where
        to : FirstBreak c k o → BrokenBy c k o
        to f =
            let g = (given-there f.seen).0 f.given in
            (record { seen = f.seen; there = f.there; inside = f.inside; earlier = f.earliest; before = g.0 }, g.1)

        from : BrokenBy c k o → FirstBreak c k o
        from r =
            let x = r.0 in
            record { seen = x.seen; there = x.there; inside = x.inside; given = (given-there x.seen).1 (x.before, r.1); earliest = x.earlier }
