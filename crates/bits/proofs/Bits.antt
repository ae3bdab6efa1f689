-- The laws of a number's bits, at every width: what a union has, what one bit alone has, and what a number with one bit more has.
use Prim.Native.Nat.{ℕ, zero, suc, ◌+◌, ◌*◌, ◌-◌, ◌/◌, ◌%◌, ◌^◌, ◌≤◌, ◌<◌, max}
use mathlib.Core.Path.{◌≡◌, refl, sym, ap, ◌∙◌}
use mathlib.Core.Bool.{Bool, true, false, ◌||◌, or-true, or-false}
use mathlib.Core.Logic.{◌⊎◌, inl, inr, ⊎_elim}
use native.Mathlib.Omega.{arith}
use native.Mathlib.Nat.{mod-lt, zero-lt-suc, zero-div, div-eq_of_lt, lt_of_lt_of_le, mul-mod_left, pow-suc, one-mul, mod-eq_of_lt, eq-or-lt_of_le}
use lib.Arith.{digits_mod}
use lib.Bits.{bit_or, or_shr, or_step}
use lib.Pow.{pow_mono, pow-lt, pow-add, shl-shr}
use lib.Dec.{eqb}
use borrow.Author.Tests.{eq-eqb, eqb-true, eqb-false}
use Rattle.rules.proofs.Firsts.{lt-or-ge}
use Rattle.bits.specs.Bits.{bit_of, Bit, has_bit, with_bit}

pub bit-lt : (x j : ℕ) → bit_of x j < 2
unfolding bit_of
bit-lt x j = mod-lt (x / 2 ^ j) (zero-lt-suc 1)

low_or : (x y : ℕ) → bit_or x y % 2 ≡ max (x % 2) (y % 2)
low_or x y =
    ap (λ (z : ℕ). z % 2) (or_step x y)
    ∙ digits_mod (bit_or (x / 2) (y / 2)) (omega (arith, mod-lt x (zero-lt-suc 1), mod-lt y (zero-lt-suc 1)))

pub bit-or : (x y j : ℕ) → bit_of (bit_or x y) j ≡ max (bit_of x j) (bit_of y j)
unfolding bit_of
bit-or x y j = ap (λ (z : ℕ). z % 2) (or_shr x y j) ∙ low_or (x / 2 ^ j) (y / 2 ^ j)

pub bit-zero : (j : ℕ) → bit_of 0 j ≡ 0
unfolding bit_of
bit-zero j = ap (λ (z : ℕ). z % 2) (zero-div (2 ^ j))

-- a number of w bits has none from w on
pub bit_high : (w x j : ℕ) → x < 2 ^ w → w ≤ j → bit_of x j ≡ 0
unfolding bit_of
bit_high w x j h l = ap (λ (z : ℕ). z % 2) (div-eq_of_lt (lt_of_lt_of_le h (pow_mono l)))

-- a bit is in the union exactly when it is in one of the two
pub or_cases : (x y j : ℕ) → Bit (bit_or x y) j → Bit x j ⊎ Bit y j
or_cases x y j h = go (bit_of x j) (bit_of y j) (bit-lt x j) (sym (bit-or x y j) ∙ h)
  where
    go : (a b : ℕ) → a < 2 → max a b ≡ 1 → (a ≡ 1) ⊎ (b ≡ 1)
    go zero b l e = inr (omega arith)
    go (suc a) b l e = inl (omega arith)

pub or_l : (x y j : ℕ) → Bit x j → Bit (bit_or x y) j
or_l x y j h = bit-or x y j ∙ omega (arith, bit-lt y j)

pub or_r : (x y j : ℕ) → Bit y j → Bit (bit_or x y) j
or_r x y j h = bit-or x y j ∙ omega (arith, bit-lt x j)

-- ---- one bit
pow_even : (d : ℕ) → 2 ^ suc d % 2 ≡ 0
pow_even d = ap (λ (x : ℕ). x % 2) (pow-suc 2 d) ∙ mul-mod_left (2 ^ d) 2

-- 2 ^ k has no other bit than k
pub one-bit-only : (k j : ℕ) → Bit (2 ^ k) j → j ≡ k
unfolding bit_of
one-bit-only k j h =
    ⊎_elim (λ l. absurd (less l)) (λ g. ⊎_elim (λ e. sym e) (λ l. absurd (more l)) (eq-or-lt_of_le g)) (lt-or-ge j k)
  where
    less : j < k → ⊥
    less l =
        let e : k ≡ suc (k - suc j) + j = omega arith in
        let p : 2 ^ k / 2 ^ j ≡ 2 ^ suc (k - suc j) = ap (λ (x : ℕ). 2 ^ x / 2 ^ j) e ∙ ap (λ (x : ℕ). x / 2 ^ j) (pow-add 2 (suc (k - suc j)) j) ∙ shl-shr (2 ^ suc (k - suc j)) j in
        omega (arith, sym h ∙ ap (λ (x : ℕ). x % 2) p ∙ pow_even (k - suc j))

    more : k < j → ⊥
    more l = omega (arith, sym h ∙ bit_high j (2 ^ k) j (pow-lt l) (omega arith))

pub one_bit : (k : ℕ) → Bit (2 ^ k) k
unfolding bit_of
one_bit k = ap (λ (x : ℕ). x / 2 ^ k % 2) (sym (one-mul (2 ^ k))) ∙ ap (λ (x : ℕ). x % 2) (shl-shr 1 k)

-- `1 << k` at width w
pub shl_one : (w k : ℕ) → k < w → (1 * 2 ^ k) % 2 ^ w ≡ 2 ^ k
shl_one w k l = ap (λ (x : ℕ). x % 2 ^ w) (one-mul (2 ^ k)) ∙ mod-eq_of_lt (pow-lt l)

-- ---- one bit more: those that x has, and this one
pub with-has : (x i j : ℕ) → has_bit (with_bit x i) j ≡ (has_bit x j || eqb i j)
unfolding with_bit
with-has x i j = go (eqb i j) refl
  where
    other : (i ≡ j → ⊥) → bit_of (2 ^ i) j ≡ 0
    other n = let l = bit-lt (2 ^ i) j in let m : bit_of (2 ^ i) j ≡ 1 → ⊥ = λ b. n (sym (one-bit-only i j b)) in omega arith

    go : (b : Bool) → eqb i j ≡ b → eqb (bit_of (bit_or x (2 ^ i)) j) 1 ≡ (eqb (bit_of x j) 1 || eqb i j)
    go true e =
        let k : i ≡ j = eqb-true i j e in
        rw (e, or-true) (eq-eqb (bit_of (bit_or x (2 ^ i)) j) 1 (or_r x (2 ^ i) j (rw k (one_bit j))))
    go false e =
        let z = other (eqb-false i j e) in
        let k : bit_of (bit_or x (2 ^ i)) j ≡ bit_of x j = bit-or x (2 ^ i) j ∙ omega arith in
        rw (e, or-false, k)
