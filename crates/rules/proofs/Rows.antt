-- The first broken row: number k is given exactly when its row is broken and no earlier one is. And a test that is met somewhere below n.
use Prim.Native.Nat.{ℕ, zero, suc, ◌<◌}
use mathlib.Core.Path.{◌≡◌, refl, sym, ap, ◌∙◌, subst}
use mathlib.Core.List.{List, [], ◌∷◌, ◌++◌}
use mathlib.Core.Bool.{Bool, true, false, not, ◌||◌, ◌&&◌, true≢false}
use mathlib.Core.Logic.{◌⊎◌, inl, inr, ⊎_elim, ◌↔◌}
use native.Mathlib.Omega.{arith}
use native.Mathlib.Nat.{eq-or-lt_of_le}
use lib.Dec.{eqb}
use borrow.Author.Tests.{eq-eqb, eqb-true, eqb-false}
use Rattle.rules.specs.IfElse.{if_else}
use Rattle.rules.specs.Numbered.{Row, or_else, first_row, Given, here, later, NoneOf, any_below, rows_before, rows_after, is_broken}

-- ---- two tests joined
pub or-first : (a b : Bool) → (a || b) ≡ false → a ≡ false
or-first true b h = h
or-first false b h = refl

pub or-second : (a b : Bool) → (a || b) ≡ false → b ≡ false
or-second true b h = absurd (true≢false h)
or-second false b h = h

pub or-either : (a b : Bool) → ((a || b) ≡ true) ↔ ((a ≡ true) ⊎ (b ≡ true))
or-either true b = (λ h. inl refl, λ h. refl)
or-either false b = (inr, ⊎_elim (λ h. absurd (true≢false (sym h))) (λ h. h))

pub and_first : (a b : Bool) → (a && b) ≡ true → a ≡ true
and_first true b h = refl
and_first false b h = h

pub and_second : (a b : Bool) → (a && b) ≡ true → b ≡ true
and_second true b h = h
and_second false b h = absurd (true≢false (sym h))

-- of which the first is met, and not both
pub and-not : (a b : Bool) → (a && b) ≡ false → a ≡ true → b ≡ false
and-not true b h e = h
and-not false b h e = absurd (true≢false (sym e))

-- ---- the first broken row
pub row_here : (r : Row) (rs : List Row) → r.broken ≡ true → first_row (r ∷ rs) ≡ r.number
row_here r rs e = rw e

pub row-later : (r : Row) (rs : List Row) → r.broken ≡ false → first_row (r ∷ rs) ≡ first_row rs
row-later r rs e = rw e

pub given-row : {rows : List Row} {k : ℕ} → Given rows k → first_row rows ≡ k
given-row (here r rs e) = row_here r rs e
given-row (later r rs k e g) = row-later r rs e ∙ given-row g

row-given : (rows : List Row) (k : ℕ) → first_row rows ≡ suc k → Given rows (suc k)
row-given [] k e = absurd (omega arith)
row-given (r ∷ rs) k e = go r.broken refl (row-given rs k)
  where
    go : (b : Bool) → r.broken ≡ b → (first_row rs ≡ suc k → Given rs (suc k)) → Given (r ∷ rs) (suc k)
    go true q f = subst (Given (r ∷ rs)) (sym (row_here r rs q) ∙ e) (here r rs q)
    go false q f = later r rs (suc k) q (f (sym (row-later r rs q) ∙ e))

-- EXACTLY WHEN
pub row_first : (rows : List Row) (k : ℕ) → (first_row rows ≡ suc k) ↔ Given rows (suc k)
row_first rows k = (row-given rows k, given-row)

pub row_gives : (rows : List Row) (k : ℕ) → k ≡ first_row rows → (k ≡ 0 → ⊥) → Given rows k
row_gives rows zero e n = absurd (n refl)
row_gives rows (suc k) e n = row-given rows k (sym e)

-- one number is given
pub given-unique : {rows : List Row} {j k : ℕ} → Given rows j → Given rows k → j ≡ k
given-unique g h = sym (given-row g) ∙ given-row h

-- where one is given, not every row is whole
pub given-none : {rows : List Row} {k : ℕ} → Given rows k → NoneOf rows → ⊥
given-none (here r rs e) n = true≢false (sym e ∙ n.0)
given-none (later r rs k e g) n = given-none g n.1

-- what holds of the number of every row holds of the one that is given
abbrev pub Each : (ℕ → Type 0) → List Row → Type 0
Each P [] = Unit {0}
Each P (r ∷ rs) = P r.number × Each P rs

pub given-each : (P : ℕ → Type 0) {rows : List Row} {k : ℕ} → Given rows k → Each P rows → P k
given-each P (here r rs e) p = p.0
given-each P (later r rs k e g) p = given-each P g p.1

-- no row has number 0
abbrev pub Numbered : List Row → Type 0
Numbered rows = Each (λ k. 0 < k) rows

pub given-number : {rows : List Row} {k : ℕ} → Given rows k → Numbered rows → 0 < k
given-number g p = given-each (λ k. 0 < k) g p

pub none_row : (rows : List Row) → NoneOf rows → first_row rows ≡ 0
none_row [] n = refl
none_row (r ∷ rs) n = row-later r rs n.0 ∙ none_row rs n.1

pub row-none : (rows : List Row) → Numbered rows → first_row rows ≡ 0 → NoneOf rows
row-none [] p e = tt
row-none (r ∷ rs) p e = go r.broken refl (row-none rs p.1)
  where
    go : (b : Bool) → r.broken ≡ b → (first_row rs ≡ 0 → NoneOf rs) → NoneOf (r ∷ rs)
    go true q f = absurd (omega (arith, p.0, sym (row_here r rs q) ∙ e))
    go false q f = (q, f (sym (row-later r rs q) ∙ e))

-- no number is given exactly where no row is broken
pub row-whole : (rows : List Row) → Numbered rows → (first_row rows ≡ 0) ↔ NoneOf rows
row-whole rows p = (row-none rows p, none_row rows)

-- number k is given exactly where it is the first broken row's, and that is not 0
pub given-exactly : (rows : List Row) → Numbered rows → (k : ℕ) → Given rows k ↔ ((first_row rows ≡ k) × (0 < k))
given-exactly rows p k = (λ g. (given-row g, given-number g p), λ e. row_gives rows k (sym e.0) (λ z. omega (arith, e.1)))

-- ---- one number of a list in which it stands once
given-here : (k : ℕ) (r : Row) (rs : List Row) → r.number ≡ k → r.broken ≡ true → Given (r ∷ rs) k
given-here k r rs e b = subst (Given (r ∷ rs)) e (here r rs b)

-- no row has the number k
abbrev pub Elsewhere : ℕ → List Row → Type 0
Elsewhere k rows = Each (λ n. n ≡ k → ⊥) rows

given_to : (rows : List Row) (k : ℕ) → Elsewhere k (rows_after k rows) → Given rows k → NoneOf (rows_before k rows) × (is_broken k rows ≡ true)
unfolding rows_before rows_after is_broken if_else
given_to rows k p (here r rs e) = rw (eq-eqb r.number r.number refl) (tt, e)
given_to rows k p (later r rs j e g) = go (eqb r.number k) p (λ x. given_to rs k x g)
  where
    go : (b : Bool) → Elsewhere k (if_else b rs (rows_after k rs)) → (Elsewhere k (rows_after k rs) → NoneOf (rows_before k rs) × (is_broken k rs ≡ true)) → NoneOf (if_else b [] (r ∷ rows_before k rs)) × (if_else b r.broken (is_broken k rs) ≡ true)
    go true x f = absurd (given-each (λ n. n ≡ k → ⊥) g x refl)
    go false x f = let y = f x in ((e, y.0), y.1)

given-from : (rows : List Row) (k : ℕ) → NoneOf (rows_before k rows) → is_broken k rows ≡ true → Given rows k
unfolding rows_before is_broken if_else
given-from [] k n e = absurd (true≢false (sym e))
given-from (r ∷ rs) k n e = go (eqb r.number k) refl n e (given-from rs k)
  where
    go : (b : Bool) → eqb r.number k ≡ b → NoneOf (if_else b [] (r ∷ rows_before k rs)) → if_else b r.broken (is_broken k rs) ≡ true → (NoneOf (rows_before k rs) → is_broken k rs ≡ true → Given rs k) → Given (r ∷ rs) k
    go true q x y f = given-here k r rs (eqb-true r.number k q) y
    go false q x y f = later r rs k x.0 (f x.1 y)

-- number k is given exactly when its row is broken and none of those checked before it
pub given_by : (rows : List Row) (k : ℕ) → Elsewhere k (rows_after k rows) → Given rows k ↔ (NoneOf (rows_before k rows) × (is_broken k rows ≡ true))
given_by rows k p = (given_to rows k p, λ x. given-from rows k x.0 x.1)

-- where no row is broken, number k's is not
pub none-broken : (rows : List Row) (k : ℕ) → NoneOf rows → is_broken k rows ≡ false
unfolding is_broken if_else
none-broken [] k n = refl
none-broken (r ∷ rs) k n = go (eqb r.number k) (none-broken rs k n.1)
  where
    go : (b : Bool) → is_broken k rs ≡ false → if_else b r.broken (is_broken k rs) ≡ false
    go true h = n.0
    go false h = h

-- no number stands twice, by a test that computes
unfoldable pub is_elsewhere : ℕ → List Row → Bool
is_elsewhere k [] = true
is_elsewhere k (r ∷ rs) = not (eqb r.number k) && is_elsewhere k rs

unfoldable pub once_each : List Row → Bool
once_each [] = true
once_each (r ∷ rs) = is_elsewhere r.number rs && once_each rs

abbrev pub Once : List Row → Type 0
Once rows = once_each rows ≡ true

elsewhere : (k : ℕ) (rows : List Row) → is_elsewhere k rows ≡ true → Elsewhere k rows
unfolding is_elsewhere
elsewhere k [] h = tt
elsewhere k (r ∷ rs) h = (go (eqb r.number k) refl (and_first _ _ h), elsewhere k rs (and_second (not (eqb r.number k)) _ h))
  where
    go : (b : Bool) → eqb r.number k ≡ b → not b ≡ true → r.number ≡ k → ⊥
    go true q n e = true≢false (sym n)
    go false q n e = eqb-false r.number k q e

pub once_after : (rows : List Row) → Once rows → (k : ℕ) → Elsewhere k (rows_after k rows)
unfolding rows_after if_else once_each
once_after [] p k = tt
once_after (r ∷ rs) p k = go (eqb r.number k) refl (once_after rs (and_second (is_elsewhere r.number rs) _ p) k)
  where
    go : (b : Bool) → eqb r.number k ≡ b → Elsewhere k (rows_after k rs) → Elsewhere k (if_else b rs (rows_after k rs))
    go true q h = subst (λ (n : ℕ). Elsewhere n rs) (eqb-true r.number k q) (elsewhere r.number rs (and_first _ _ p))
    go false q h = h

-- rows checked before others
pub row_before : (rs qs : List Row) (k : ℕ) → first_row rs ≡ suc k → first_row (rs ++ qs) ≡ suc k
row_before [] qs k e = absurd (omega arith)
row_before (r ∷ rs) qs k e = go r.broken refl (row_before rs qs k)
  where
    go : (b : Bool) → r.broken ≡ b → (first_row rs ≡ suc k → first_row (rs ++ qs) ≡ suc k) → first_row ((r ∷ rs) ++ qs) ≡ suc k
    go true q f = row_here r (rs ++ qs) q ∙ (sym (row_here r rs q) ∙ e)
    go false q f = row-later r (rs ++ qs) q ∙ f (sym (row-later r rs q) ∙ e)

pub row-after : (rs qs : List Row) → Numbered rs → first_row rs ≡ 0 → first_row (rs ++ qs) ≡ first_row qs
row-after [] qs p e = refl
row-after (r ∷ rs) qs p e = go r.broken refl (row-after rs qs p.1)
  where
    go : (b : Bool) → r.broken ≡ b → (first_row rs ≡ 0 → first_row (rs ++ qs) ≡ first_row qs) → first_row ((r ∷ rs) ++ qs) ≡ first_row qs
    go true q f = absurd (omega (arith, p.0, sym (row_here r rs q) ∙ e))
    go false q f = row-later r (rs ++ qs) q ∙ f (sym (row-later r rs q) ∙ e)

-- ---- one test of code that checks rules in their order
pub row-yes : (b : Bool) (k r : ℕ) → b ≡ true → k ≡ or_else b k r
row-yes b k r e = rw e

pub row-no : (b : Bool) (k r x : ℕ) → b ≡ false → x ≡ r → x ≡ or_else b k r
row-no b k r x e q = rw e q

-- ---- a test below n
pub any_none : (n : ℕ) (f : ℕ → Bool) → ((k : ℕ) → k < n → f k ≡ false) → any_below n f ≡ false
unfolding any_below
any_none zero f h = refl
any_none (suc n) f h = rw (h n (omega arith)) (any_none n f (λ k l. h k (omega arith)))

pub any_some : (n : ℕ) (f : ℕ → Bool) (k : ℕ) → k < n → f k ≡ true → any_below n f ≡ true
unfolding any_below
any_some zero f k l e = absurd (omega arith)
any_some (suc n) f k l e = go (f n) refl (eq-or-lt_of_le {n = k} {m = n} (omega arith)) (λ m. any_some n f k m e)
  where
    go : (b : Bool) → f n ≡ b → (k ≡ n) ⊎ (k < n) → (k < n → any_below n f ≡ true) → (b || any_below n f) ≡ true
    go true q s r = refl
    go false q (inl z) r = absurd (true≢false (sym e ∙ (ap f z ∙ q)))
    go false q (inr m) r = r m

pub none_any : (n : ℕ) (f : ℕ → Bool) → any_below n f ≡ false → (k : ℕ) → k < n → f k ≡ false
unfolding any_below
none_any zero f e k l = absurd (omega arith)
none_any (suc n) f e k l =
    ⊎_elim (λ z. ap f z ∙ or-first (f n) (any_below n f) e) (λ m. none_any n f (or-second (f n) (any_below n f) e) k m) (eq-or-lt_of_le {n = k} {m = n} (omega arith))
