-- The test `offered` says yes exactly when the rule as document 01 words it holds. Multiples are of natural numbers: none wraps, none is negative.
use Prim.Native.Nat.{ℕ, zero, suc, ◌+◌, ◌-◌, ◌*◌, ◌/◌, ◌%◌, ◌≤◌, ◌<◌}
use mathlib.Core.Path.{◌≡◌, refl, sym}
use mathlib.Core.List.{List, [], ◌∷◌}
use mathlib.Core.Bool.{Bool, true, false, true≢false}
use mathlib.Core.Logic.{◌↔◌}
use lib.ListN.{length, get_or}
use lib.Dec.{eqb, ltb, leb}
use borrow.Author.Tests.{le-ltb, lt-leb, eq-eqb, ne_eqb, eqb-true, eqb-false, ltb-false, leb-false}
use native.Mathlib.Omega.{arith}
use native.Mathlib.Nat.{div-add-mod', mul-mod_left}
use native.Mathlib.Numerals.{add-one}
use Rattle.rules.specs.IfElse.{if_else}
use Rattle.intervals.specs.Intervals.{list_at, Listed, Stepped, Offered, rises, among, listed, stepped, offered, shortest_at, longest_at, step_at}

-- ---- a if_else that is true
if_else-both : (b c : Bool) → if_else b c false ≡ true → (b ≡ true) × (c ≡ true)
unfolding if_else
if_else-both true c h = (refl, h)
if_else-both false c h = absurd (true≢false (sym h))

if_else-neither : (b c : Bool) → if_else b false c ≡ true → (b ≡ false) × (c ≡ true)
unfolding if_else
if_else-neither true c h = absurd (true≢false (sym h))
if_else-neither false c h = (refl, h)

-- ---- a list
-- each is more than the one before it, and the first is more than b
pub record Rising (b : ℕ) (l : List ℕ) : Type 0 where
  pub above : (i : ℕ) → i < length l → b < get_or l i 0
  pub next : (i : ℕ) → suc i < length l → get_or l i 0 < get_or l (suc i) 0

rising-of : (b : ℕ) (l : List ℕ) → rises b l ≡ true → Rising b l
unfolding rises
rising-of b [] h = record { above = λ i k. absurd (omega arith); next = λ i k. absurd (omega arith) }
rising-of b (y ∷ l) h =
    let p = if_else-neither (leb y b) (rises y l) h in
    let r = rising-of y l p.1 in
    record { above = above r (leb-false y b p.0); next = next r }
  where
    above : Rising y l → b < y → (i : ℕ) → i < suc (length l) → b < get_or (y ∷ l) i 0
    above r q zero k = q
    above r q (suc i) k = omega (arith, r.above i (omega arith))

    next : Rising y l → (i : ℕ) → suc i < suc (length l) → get_or (y ∷ l) i 0 < get_or l i 0
    next r zero k = r.above 0 (omega arith)
    next r (suc i) k = r.next i (omega arith)

of_rising : (b : ℕ) (l : List ℕ) → Rising b l → rises b l ≡ true
unfolding rises if_else
of_rising b [] r = refl
of_rising b (y ∷ l) r = rw (lt-leb y b (r.above 0 (omega arith))) (of_rising y l (record { above = above; next = λ i k. r.next (suc i) (omega arith) }))
  where
    above : (i : ℕ) → i < length l → y < get_or l i 0
    above zero k = r.next 0 (omega arith)
    above (suc i) k = omega (arith, above i (omega arith), r.next (suc i) (omega arith))

abbrev Found : ℕ → List ℕ → Type 0
Found x l = (i : ℕ) × (i < length l) × (get_or l i 0 ≡ x)

among_of : (x : ℕ) (l : List ℕ) → among x l ≡ true → Found x l
unfolding among if_else
among_of x [] h = absurd (true≢false (sym h))
among_of x (y ∷ l) h = go (eqb y x) refl (λ q. among_of x l q)
  where
    go : (b : Bool) → eqb y x ≡ b → (among x l ≡ true → Found x l) → Found x (y ∷ l)
    go true e on = (0, omega arith, eqb-true y x e)
    go false e on = let r = on (rw e at h) in (suc r.0, omega (arith, r.1), r.2)

of-among : (x : ℕ) (l : List ℕ) (i : ℕ) → i < length l → get_or l i 0 ≡ x → among x l ≡ true
unfolding among if_else
of-among x [] i h e = absurd (omega arith)
of-among x (y ∷ l) zero h e = rw (eq-eqb y x e)
of-among x (y ∷ l) (suc i) h e = go (eqb y x) (of-among x l i (omega arith) e)
  where
    go : (b : Bool) → among x l ≡ true → if_else b true (among x l) ≡ true
    go true q = refl
    go false q = q

pub listed-decides : (l : List ℕ) (x : ℕ) → (listed l x ≡ true) ↔ Listed l x
unfolding if_else
listed-decides l x = (to, from)
  where
    to : listed l x ≡ true → Listed l x
    to h =
        let p = if_else-both (rises 0 l) (among x l) h in
        let r = rising-of 0 l p.0 in
        let a = among_of x l p.1 in
        record { nonzero = λ i k e. omega (arith, r.above i k); rising = λ i k. rw (add-one i) (r.next i (omega arith)); place = a.0; within = a.1; there = a.2 }

    from : Listed l x → listed l x ≡ true
    from w = rw (of_rising 0 l (record { above = above; next = λ i k. rw (add-one i) at (w.rising i (omega arith)) })) (of-among x l w.place w.within w.there)
      where
        above : (i : ℕ) → i < length l → 0 < get_or l i 0
        above i k = omega (arith, w.nonzero i k)

-- ---- no list
multiple-of : (a d x : ℕ) → a ≤ x → (x - a) % d ≡ 0 → x ≡ a + (x - a) / d * d
multiple-of a d x h e = omega (arith, div-add-mod' (x - a) d)

step-to : (a b d x : ℕ) → stepped a b d x ≡ true → Stepped a b d x
unfolding stepped
step-to a b d x h =
    let p = if_else-neither (eqb a 0) _ h in
    let q = if_else-neither (eqb d 0) _ p.1 in
    let r = if_else-neither (ltb b a) _ q.1 in
    let u = if_else-neither (ltb x a) _ r.1 in
    let v = if_else-neither (ltb b x) _ u.1 in
    let n : d ≡ 0 → ⊥ = eqb-false d 0 q.0 in
    let l : a ≤ x = ltb-false x a u.0 in
    record { nonzero = eqb-false a 0 p.0; ordered = ltb-false b a r.0; moving = omega (arith, n); times = (x - a) / d; multiple = multiple-of a d x l (eqb-true ((x - a) % d) 0 v.1); most = ltb-false b x v.0 }

of-step : (a b d x : ℕ) → Stepped a b d x → stepped a b d x ≡ true
unfolding stepped if_else
of-step a b d x w =
    let m = w.moving in
    let o = w.most in
    let z : (d ≡ 0 → ⊥) = λ e. omega arith in
    let e : x - a ≡ w.times * d = omega (arith, w.multiple) in
    rw (ne_eqb a 0 w.nonzero, ne_eqb d 0 z, le-ltb b a w.ordered, le-ltb x a (omega (arith, w.multiple)), le-ltb b x o, e, mul-mod_left w.times d)

pub stepped-decides : (a b d x : ℕ) → (stepped a b d x ≡ true) ↔ Stepped a b d x
stepped-decides a b d x = (step-to a b d x, of-step a b d x)

pub offered-decides : (s : List ℕ) (p k x : ℕ) → (offered s p k x ≡ true) ↔ Offered s p k x
unfolding offered
offered-decides s p zero x = stepped-decides (shortest_at s p) (longest_at s p) (step_at s p) x
offered-decides s p (suc k) x = listed-decides (list_at s p (suc k)) x
