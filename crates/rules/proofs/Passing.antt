-- The places that descriptors reach follow each other: what a descriptor leaves, and every later one keeps, is there wherever a later place is reached.
use Prim.Native.Nat.{ℕ, zero, suc, ◌+◌, ◌≤◌, ◌<◌}
use mathlib.Core.Path.{◌≡◌, refl, sym, ◌∙◌}
use mathlib.Core.Logic.{⊎_elim}
use native.Mathlib.Omega.{arith}
use native.Mathlib.Nat.{eq-or-lt_of_le}
use Rattle.rules.specs.Walk.{Course, Reached, first, next}
use Rattle.rules.proofs.Firsts.{lt-or-ge}

module _ {A : Type 0} (c : Course A) where
  -- reached after n descriptors
  abbrev After : ℕ → A → ℕ → Type 0
  After zero a o = (a ≡ c.start) × (o ≡ 0)
  After (suc n) a o = (b : A) × (q : ℕ) × After n b q × (0 < c.len q) × (a ≡ c.gather b q) × (o ≡ q + c.len q)

  counted : {a : A} {o : ℕ} → Reached c a o → (n : ℕ) × After n a o
  counted first = (0, (refl, refl))
  counted (next {a = a} {o = o} r h p q) = let m = counted r in (suc m.0, (a, o, m.1, p, refl, refl))

  -- the n-th place, and what is gathered there, are one
  same_place : (n : ℕ) (a b : A) (o p : ℕ) → After n a o → After n b p → o ≡ p
  same_place zero a b o p x y = x.1 ∙ sym y.1
  same_place (suc n) a b o p x y = x.5 ∙ (rw (same_place n x.0 y.0 x.1 y.1 x.2 y.2) (sym y.5))

  same-thing : (n : ℕ) (a b : A) (o p : ℕ) → After n a o → After n b p → a ≡ b
  same-thing zero a b o p x y = x.0 ∙ sym y.0
  same-thing (suc n) a b o p x y =
      x.4 ∙ (rw (same-thing n x.0 y.0 x.1 y.1 x.2 y.2, same_place n x.0 y.0 x.1 y.1 x.2 y.2) (sym y.4))

  -- a later place lies behind an earlier one
  behind : (m n : ℕ) (a b : A) (o q : ℕ) → After m b o → After n a q → n < m → q < o
  behind zero n a b o q x y l = absurd (omega arith)
  behind (suc m) n a b o q x y l =
      ⊎_elim at (λ k. omega (arith, behind m n a x.0 x.1 q x.2 y k, x.5)) (eq-or-lt_of_le {n = n} {m = m} (omega arith))
    where
      at : n ≡ m → q < o
      at e = omega (arith, same_place m a x.0 q x.1 (rw e at y) x.2, x.3, x.5)

  earlier : (m n : ℕ) (a b : A) (o p : ℕ) → After m b o → After n a p → o < p → m < n
  earlier m n a b o p x y l = ⊎_elim (λ h. h) (λ h. absurd (not-later h)) (lt-or-ge m n)
    where
      not-later : n ≤ m → ⊥
      not-later h = ⊎_elim (λ e. omega (arith, same_place m b a o p x (rw e at y))) (λ k. omega (arith, behind m n a b o p x y k)) (eq-or-lt_of_le {n = n} {m = m} h)

  module _ (Q : A → Type 0) (keep : (a : A) (o : ℕ) → Q a → Q (c.gather a o)) (b : A) (o : ℕ) (has : Q (c.gather b o)) where
    kept : (m n : ℕ) (a : A) (p : ℕ) → After m b o → After n a p → m < n → Q a
    kept m zero a p x y l = absurd (omega arith)
    kept m (suc n) a p x y l =
        rw y.4
        (⊎_elim at (λ k. keep y.0 y.1 (kept m n y.0 y.1 x y.2 k)) (eq-or-lt_of_le {n = m} {m = n} (omega arith)))
      where
        at : m ≡ n → Q (c.gather y.0 y.1)
        at e = let z = rw e at x in rw (same-thing n y.0 b y.1 o y.2 z, same_place n y.0 b y.1 o y.2 z) has

    -- what the descriptor at o leaves, and each keeps, is there at every later place
    pub passes : {a : A} {p : ℕ} → Reached c b o → Reached c a p → o < p → Q a
    passes {a} {p} r s l =
        let x = counted r in
        let y = counted s in
        kept x.0 y.0 a p x.1 y.1 (earlier x.0 y.0 a b o p x.1 y.1 l)

  -- what is gathered at a place is one
  pub one-thing : {a b : A} {o : ℕ} → Reached c a o → Reached c b o → a ≡ b
  one-thing {a} {b} {o} r s =
      let x = counted r in
      let y = counted s in
      ⊎_elim
      (λ (l : x.0 < y.0). absurd (omega (arith, behind y.0 x.0 a b o o y.1 x.1 l)))
      (λ (h : y.0 ≤ x.0). ⊎_elim
      (λ (e : y.0 ≡ x.0). same-thing x.0 a b o o x.1 (rw e at y.1))
      (λ (k : y.0 < x.0). absurd (omega (arith, behind x.0 y.0 b a o o x.1 y.1 k)))
      (eq-or-lt_of_le {n = y.0} {m = x.0} h))
      (lt-or-ge x.0 y.0)
