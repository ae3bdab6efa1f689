-- The test `untrue` says yes exactly where the rule is asked and does not hold.
use Prim.Native.Nat.{ℕ, ◌*◌, ◌≤◌}
use mathlib.Core.Path.{◌≡◌, refl, sym, ◌∙◌}
use mathlib.Core.Bool.{Bool, true, false, not, true≢false}
use mathlib.Core.Logic.{◌⊎◌, inl, inr, ⊎_elim, ◌↔◌}
use lib.Dec.{leb, eqb}
use borrow.Author.Tests.{eq-eqb, ne_eqb, le-leb, eqb-true, eqb-false, leb-true, not-false}
use native.Mathlib.Omega.{arith}
use Rattle.rules.specs.IfElse.{if_else}
use Rattle.pictures.specs.Pictures.{Asked, CanBeTrue, bits_of, in_bytes, untrue}

-- divided by 8 and rounded up, it is at most the size exactly where eight times the size is enough
pub rounded-up : (n size : ℕ) → (in_bytes n ≤ size) ↔ (n ≤ 8 * size)
rounded-up n size = (λ h. omega (arith, h), λ h. omega (arith, h))

past : (b c : Bool) → if_else b true c ≡ false → (b ≡ false) × (c ≡ false)
unfolding if_else
past true c h = absurd (true≢false h)
past false c h = (refl, h)

-- the tests after the sort's, with the bits that it has
module _ (right bits width height size : ℕ) where
  abbrev tests : Bool
  tests = if_else (eqb width 0) true (if_else (eqb height 0) true (if_else (not (eqb bits right)) true (not (leb (in_bytes (width * height * bits)) size))))

  pub record Holds : Type 0 where
    pub wide : 1 ≤ width
    pub high : 1 ≤ height
    pub same : bits ≡ right
    pub room : width * height * bits ≤ 8 * size

  holds : tests ≡ false → Holds
  holds e =
      let a = past (eqb width 0) _ e in
      let b = past (eqb height 0) _ a.1 in
      let c = past (not (eqb bits right)) _ b.1 in
      let w = eqb-false width 0 a.0 in
      let h = eqb-false height 0 b.0 in
      record {
        wide = omega (arith, w);
        high = omega (arith, h);
        same = eqb-true bits right (not-false _ c.0);
        room = (rounded-up (width * height * bits) size).0 (leb-true (in_bytes (width * height * bits)) size (not-false _ c.1));
      }

  passed : Holds → tests ≡ false
  unfolding if_else
  passed h =
      rw (ne_eqb width 0 (λ e. omega (arith, h.wide, e)), ne_eqb height 0 (λ e. omega (arith, h.high, e)), eq-eqb bits right h.same, le-leb (in_bytes (width * height * bits)) size ((rounded-up (width * height * bits) size).1 h.room))

-- the bits per pixel that an asked sort has
abbrev Right : ℕ → ℕ → Type 0
Right sort right = ((sort ≡ 1) × (right ≡ 16)) ⊎ ((sort ≡ 2) × (right ≡ 12))

right_of : {sort : ℕ} → Asked sort → (right : ℕ) × Right sort right
right_of (inl e) = (16, inl (e, refl))
right_of (inr e) = (12, inr (e, refl))

bits-right : {sort right : ℕ} → Right sort right → bits_of sort ≡ right
unfolding bits_of if_else
bits-right (inl p) = rw (p.0, p.1)
bits-right (inr p) = rw (p.0, p.1)

some_bits : {sort right : ℕ} → Right sort right → right ≡ 0 → ⊥
some_bits (inl p) e = omega (arith, p.1, e)
some_bits (inr p) e = omega (arith, p.1, e)

module _ (sort bits width height size : ℕ) where
  can : {right : ℕ} → Right sort right → Holds right bits width height size → CanBeTrue sort bits width height size
  can (inl p) h = record { wide = h.wide; high = h.high; yuy2 = λ y. h.same ∙ p.1; nv12 = λ y. absurd (omega (arith, p.0, y)); room = h.room }
  can (inr p) h = record { wide = h.wide; high = h.high; yuy2 = λ y. absurd (omega (arith, p.0, y)); nv12 = λ y. h.same ∙ p.1; room = h.room }

  held : {right : ℕ} → Right sort right → CanBeTrue sort bits width height size → Holds right bits width height size
  held (inl p) h = record { wide = h.wide; high = h.high; same = h.yuy2 p.0 ∙ sym p.1; room = h.room }
  held (inr p) h = record { wide = h.wide; high = h.high; same = h.nv12 p.0 ∙ sym p.1; room = h.room }

  by_bits : {right : ℕ} → Right sort right → untrue sort bits width height size ≡ tests right bits width height size
  unfolding untrue if_else
  by_bits p = rw (bits-right p, ne_eqb _ 0 (some_bits p))

  -- what is asked and not refused can be true, and what can be true is not refused
  pub can-be-true : Asked sort → untrue sort bits width height size ≡ false → CanBeTrue sort bits width height size
  can-be-true a e = let r = right_of a in can r.1 (holds r.0 bits width height size (sym (by_bits r.1) ∙ e))

  pub not-refused : Asked sort → CanBeTrue sort bits width height size → untrue sort bits width height size ≡ false
  not-refused a h = let r = right_of a in by_bits r.1 ∙ passed r.0 bits width height size (held r.1 h)

  -- no other sort is refused
  pub not-asked : (Asked sort → ⊥) → untrue sort bits width height size ≡ false
  unfolding untrue bits_of if_else
  not-asked n = rw (ne_eqb sort 1 (λ e. n (inl e)), ne_eqb sort 2 (λ e. n (inr e)))

  asked-or-not : (Asked sort) ⊎ (Asked sort → ⊥)
  asked-or-not = go (eqb sort 1) refl (eqb sort 2) refl
    where
      neither : eqb sort 1 ≡ false → eqb sort 2 ≡ false → Asked sort → ⊥
      neither p q (inl e) = eqb-false sort 1 p e
      neither p q (inr e) = eqb-false sort 2 q e

      go : (b : Bool) → eqb sort 1 ≡ b → (c : Bool) → eqb sort 2 ≡ c → (Asked sort) ⊎ (Asked sort → ⊥)
      go true p c q = inl (inl (eqb-true sort 1 p))
      go false p true q = inl (inr (eqb-true sort 2 q))
      go false p false q = inr (neither p q)

  -- EXACTLY WHEN
  pub untrue-decides : (untrue sort bits width height size ≡ true) ↔ (Asked sort × (CanBeTrue sort bits width height size → ⊥))
  untrue-decides = (
    λ h. ⊎_elim (λ a. (a, λ c. true≢false (sym h ∙ not-refused a c))) (λ n. absurd (true≢false (sym h ∙ not-asked n))) asked-or-not,
    λ r. go (untrue sort bits width height size) refl r,
  )
    where
      go : (b : Bool) → untrue sort bits width height size ≡ b → Asked sort × (CanBeTrue sort bits width height size → ⊥) → b ≡ true
      go true q r = refl
      go false q r = absurd (r.1 (can-be-true r.0 q))
