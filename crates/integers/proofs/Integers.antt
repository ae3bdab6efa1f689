-- An integer as the difference of two natural numbers: what is said of it is then said of those.
use Prim.Native.Nat.{ℕ, zero, suc, ◌+◌, ◌-◌, ◌*◌, ◌≤◌, ◌<◌}
use mathlib.Core.Path.{◌≡◌, refl, ap}
use mathlib.Core.Bool.{Bool, true, false, cond}
use native.Mathlib.Omega.{arith}
use native.Mathlib.Nat.{add-mul}
use lib.Dec.{ltb, leb→le, le→leb, ltb→lt, lt→ltb}
use borrow.Author.Tests.{ltb-true, ltb-false}
use lib.IntN.{ℤ, pos, negsuc, neg_ℤ, nat_abs, sub_ℕ, ◌+ℤ◌, ◌*ℤ◌}
use lib.Signed.{◌≤ℤ◌, ◌<ℤ◌}

-- z is p − q
abbrev pub Is : ℤ → ℕ → ℕ → Type 0
Is (pos n) p q = p ≡ q + n
Is (negsuc n) p q = p + suc n ≡ q

pub is_pos : (n : ℕ) → Is (pos n) n 0
is_pos n = omega arith

pub is-neg : (z : ℤ) (p q : ℕ) → Is z p q → Is (neg_ℤ z) q p
is-neg (pos zero) p q e = omega arith
is-neg (pos (suc n)) p q e = omega arith
is-neg (negsuc n) p q e = omega arith

pub is_negative : (n : ℕ) → Is (neg_ℤ (pos n)) 0 n
is_negative n = is-neg (pos n) n 0 (is_pos n)

pub is-sub : (p q : ℕ) → Is (sub_ℕ p q) p q
is-sub p q = go (ltb p q) refl
  where
    go : (t : Bool) → ltb p q ≡ t → Is (cond t (negsuc (q - suc p)) (pos (p - q))) p q
    go true e = let h = ltb-true p q e in omega arith
    go false e = let h = ltb-false p q e in omega arith

-- the same difference of two other numbers
moved : (a b p q : ℕ) → p + b ≡ a + q → Is (sub_ℕ a b) p q
moved a b p q h = go (sub_ℕ a b) (is-sub a b)
  where
    go : (z : ℤ) → Is z a b → Is z p q
    go (pos n) e = omega arith
    go (negsuc n) e = omega arith

-- equal, or one at most the other, where it is so of the sums across
pub same : (x y : ℤ) (p q r s : ℕ) → Is x p q → Is y r s → p + s ≡ r + q → x ≡ y
same (pos m) (pos n) p q r s e f h = ap pos (omega arith)
same (pos m) (negsuc n) p q r s e f h = absurd (omega arith)
same (negsuc m) (pos n) p q r s e f h = absurd (omega arith)
same (negsuc m) (negsuc n) p q r s e f h = ap negsuc (omega arith)

pub differ-alike : (z : ℤ) (p q r s : ℕ) → Is z p q → Is z r s → p + s ≡ r + q
differ-alike (pos n) p q r s e f = omega arith
differ-alike (negsuc n) p q r s e f = omega arith

pub at_most : (x y : ℤ) (p q r s : ℕ) → Is x p q → Is y r s → p + s ≤ r + q → x ≤ℤ y
at_most (pos m) (pos n) p q r s e f h = record { le = le→leb m n (omega arith) }
at_most (pos m) (negsuc n) p q r s e f h = absurd (omega arith)
at_most (negsuc m) (pos n) p q r s e f h = record { le = tt }
at_most (negsuc m) (negsuc n) p q r s e f h = record { le = le→leb n m (omega arith) }

pub across : (x y : ℤ) (p q r s : ℕ) → Is x p q → Is y r s → x ≤ℤ y → p + s ≤ r + q
across (pos m) (pos n) p q r s e f h = let k = leb→le m n h.le in omega arith
across (pos m) (negsuc n) p q r s e f h = absurd h.le
across (negsuc m) (pos n) p q r s e f h = omega arith
across (negsuc m) (negsuc n) p q r s e f h = let k = leb→le n m h.le in omega arith

pub across-below : (x y : ℤ) (p q r s : ℕ) → Is x p q → Is y r s → x <ℤ y → p + s < r + q
across-below (pos m) (pos n) p q r s e f h = let k = ltb→lt m n h.lt in omega arith
across-below (pos m) (negsuc n) p q r s e f h = absurd h.lt
across-below (negsuc m) (pos n) p q r s e f h = omega arith
across-below (negsuc m) (negsuc n) p q r s e f h = let k = ltb→lt n m h.lt in omega arith

-- a sum and a multiple (a difference: Differences)
pub is-plus : (x y : ℤ) (p q r s : ℕ) → Is x p q → Is y r s → Is (x +ℤ y) (p + r) (q + s)
is-plus (pos m) (pos n) p q r s e f = omega arith
is-plus (pos m) (negsuc n) p q r s e f = moved m (suc n) (p + r) (q + s) (omega arith)
is-plus (negsuc m) (pos n) p q r s e f = moved n (suc m) (p + r) (q + s) (omega arith)
is-plus (negsuc m) (negsuc n) p q r s e f = omega arith

pub is-times : (x : ℤ) (p q k : ℕ) → Is x p q → Is (x *ℤ pos k) (p * k) (q * k)
is-times (pos n) p q k e = rw (e, add-mul q n k) refl
is-times (negsuc n) p q k e = is-neg (pos (suc n * k)) (q * k) (p * k) (rw (← e, add-mul p (suc n) k) refl)

pub below : (x y : ℤ) (p q r s : ℕ) → Is x p q → Is y r s → p + s < r + q → x <ℤ y
below (pos m) (pos n) p q r s e f h = record { lt = lt→ltb m n (omega arith) }
below (pos m) (negsuc n) p q r s e f h = absurd (omega arith)
below (negsuc m) (pos n) p q r s e f h = record { lt = tt }
below (negsuc m) (negsuc n) p q r s e f h = record { lt = lt→ltb n m (omega arith) }

-- how far it is from zero
pub is-far : (z : ℤ) (p q : ℕ) → Is z p q → nat_abs z ≡ (p - q) + (q - p)
is-far (pos n) p q e = omega arith
is-far (negsuc n) p q e = omega arith

-- every integer is such a difference
unfoldable pub upper : ℤ → ℕ
upper (pos n) = n
upper (negsuc n) = 0

unfoldable pub under : ℤ → ℕ
under (pos n) = 0
under (negsuc n) = suc n

pub is-of : (z : ℤ) → Is z (upper z) (under z)
unfolding upper under
is-of (pos n) = omega arith
is-of (negsuc n) = omega arith

-- at most each other: the same
pub both_ways : (x y : ℤ) → x ≤ℤ y → y ≤ℤ x → x ≡ y
both_ways x y h k =
    let a = across x y (upper x) (under x) (upper y) (under y) (is-of x) (is-of y) h in
    let b = across y x (upper y) (under y) (upper x) (under x) (is-of y) (is-of x) k in
    same x y (upper x) (under x) (upper y) (under y) (is-of x) (is-of y) (omega arith)
