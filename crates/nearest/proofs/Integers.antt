-- The nearest of naturals is the nearest of the integers that they stand for, whatever zero is shifted to; there is always one, and no second.
use Prim.Native.Nat.{ℕ, ◌+◌, ◌-◌, ◌*◌, ◌≤◌, ◌<◌}
use mathlib.Core.Path.{◌≡◌, refl}
use mathlib.Core.Bool.{Bool, true, false}
use native.Mathlib.Omega.{arith}
use lib.Dec.{ltb, ltb→lt}
use borrow.Author.Tests.{ltb-true, ltb-false}
use lib.IntN.{ℤ, pos, negsuc, sub_ℕ, ◌+ℤ◌, ◌-ℤ◌, ◌*ℤ◌}
use lib.Signed.{◌≤ℤ◌, ◌<ℤ◌}
use Rattle.integers.proofs.Integers.{Is, is_pos, is-plus, is-far, is-sub, same, at_most, across, both_ways, upper, under}
use Rattle.integers.proofs.Differences.{is-minus}
use Rattle.nearest.specs.Nearest.{Range, Allowed, apart, Nearest}
use Rattle.nearest.specs.Inner.{distance, Closest}
use Rattle.nearest.proofs.Choosing.{last, lowest, the_last, no-nearer, the-next, the-lower}

-- k stands for zero, and the range for a, a + d, .. up to b
pub record Shifts (k a b d : ℕ) (g : Range) : Type 0 where
  pub minimum : Is g.minimum a k
  pub maximum : Is g.maximum b k
  pub step : g.step ≡ pos d

far_apart : (k p q : ℕ) (x y : ℤ) → Is x p k → Is y q k → apart x y ≡ distance p q
far_apart k p q x y e f = omega (arith, is-far (x -ℤ y) (p + k) (k + q) (is-minus x y p k q k e f))

module _ (k a b d : ℕ) (g : Range) (z : Shifts k a b d g) where
  in_row : (t : ℕ) → Is (g.minimum +ℤ pos t *ℤ g.step) (a + t * d) k
  in_row t = let e : k + 0 ≡ k = omega arith in rw z.step (rw e at (is-plus g.minimum (pos (t * d)) a k (t * d) 0 z.minimum (is_pos (t * d))))

  -- an allowed number stands in the row
  pub record InRow (m : ℤ) : Type 0 where
    pub times : ℕ
    pub is : Is m (a + times * d) k
    pub few : a + times * d ≤ b

  row_of : (m : ℤ) → Allowed g m → InRow m
  row_of m w =
      let e : Is m (a + w.times * d) k = rw (← w.multiple) at (in_row w.times) in
      record { times = w.times; is = e; few = omega (arith, across m g.maximum _ k b k e z.maximum w.at_most) }

  pub to-integers : (w r : ℕ) (wanted n : ℤ) → Is wanted w k → Is n r k → Closest a b d w r → Nearest g wanted n
  to-integers w r wanted n e f c = record {
    allowed = record {
      times = c.times;
      multiple = same n _ r k (a + c.times * d) k f (in_row c.times) (omega (arith, c.multiple));
      at_most = at_most n g.maximum r k b k f z.maximum (omega (arith, c.at_most));
    };
    nearest = λ m h. let q = row_of m h in rw (far_apart k r w n wanted f e, far_apart k (a + q.times * d) w m wanted q.is e) (c.nearest q.times q.few);
    lower = λ m h t.
        let q = row_of m h in
        let x = rw (far_apart k r w n wanted f e, far_apart k (a + q.times * d) w m wanted q.is e) at t in
        at_most n m r k (a + q.times * d) k f q.is (omega (arith, c.lower q.times q.few x));
  }

-- NO SECOND: of two, each is the lower
pub one-nearest : (g : Range) (wanted m n : ℤ) → Nearest g wanted m → Nearest g wanted n → m ≡ n
one-nearest g wanted m n x y =
    let e : apart m wanted ≡ apart n wanted = omega (arith, x.nearest n y.allowed, y.nearest m x.allowed) in
    both_ways m n (x.lower n y.allowed (omega arith)) (y.lower m x.allowed (omega arith))

-- ---- ALWAYS ONE: every range has a nearest, of all integers
some-closest : (a b d w : ℕ) → a ≤ b → 0 < d → (r : ℕ) × Closest a b d w r
some-closest a b d w h s = low (ltb a w) refl
  where
    between : a < w → w < b → (p : Bool) → ltb b (last a d w + d) ≡ p → (q : Bool) → ltb (last a d w + d - w) (w - last a d w) ≡ q → (r : ℕ) × Closest a b d w r
    between l m true e q f = (last a d w, no-nearer a b d w w (omega arith) s (omega arith) (omega arith) (ltb-true _ _ e))
    between l m false e true f = (last a d w + d, the-next a b d w (omega arith) s (ltb-false _ _ e) (ltb-true _ _ f))
    between l m false e false f = (last a d w, the-lower a b d w (omega arith) s (omega arith) (ltb-false _ _ f))

    high : a < w → (p : Bool) → ltb w b ≡ p → (r : ℕ) × Closest a b d w r
    high l true e = between l (ltb-true w b e) (ltb b (last a d w + d)) refl (ltb (last a d w + d - w) (w - last a d w)) refl
    high l false e = (last a d b, the_last a b d w h s (ltb-false w b e))

    low : (p : Bool) → ltb a w ≡ p → (r : ℕ) × Closest a b d w r
    low true e = high (ltb-true a w e) (ltb w b) refl
    low false e = (a, lowest a b d w (ltb-false a w e) h)

-- an integer shifted up by k, where that is no less than it lies below zero
shifts : (k : ℕ) (z : ℤ) → under z ≤ k → Is z (upper z + (k - under z)) k
unfolding upper under
shifts k (pos n) h = omega arith
shifts k (negsuc n) h = omega arith

positive : (z : ℤ) → pos 0 <ℤ z → (d : ℕ) × (z ≡ pos d) × (0 < d)
positive (pos n) h = (n, refl, ltb→lt 0 n h.lt)
positive (negsuc n) h = absurd h.lt

pub always-nearest : (g : Range) (wanted : ℤ) → g.minimum ≤ℤ g.maximum → pos 0 <ℤ g.step → (n : ℤ) × Nearest g wanted n
always-nearest g wanted h s =
    let k = under g.minimum + under g.maximum + under wanted in
    let a = upper g.minimum + (k - under g.minimum) in
    let b = upper g.maximum + (k - under g.maximum) in
    let w = upper wanted + (k - under wanted) in
    let x : Is g.minimum a k = shifts k g.minimum (omega arith) in
    let y : Is g.maximum b k = shifts k g.maximum (omega arith) in
    let p = positive g.step s in
    let r = some-closest a b p.0 w (omega (arith, across g.minimum g.maximum a k b k x y h)) p.2 in (
      sub_ℕ r.0 k,
      to-integers k a b p.0 g (record { minimum = x; maximum = y; step = p.1 }) w r.0 wanted (sub_ℕ r.0 k) (shifts k wanted (omega arith)) (is-sub r.0 k) r.1,
    )
