-- The signed step between two stamps, as a difference of natural numbers, and its laws.
use Prim.Native.Nat.{ℕ, ◌+◌, ◌-◌, ◌*◌, ◌/◌, ◌≤◌, ◌<◌, ◌^◌}
use mathlib.Core.Path.{◌≡◌, refl, subst}
use mathlib.Core.Bool.{Bool, true, false, cond}
use mathlib.Core.List.{List, [], ◌∷◌}
use mathlib.Core.Logic.{◌↔◌}
use native.Mathlib.Omega.{arith}
use lib.Dec.{ltb}
use lib.IntN.{ℤ, pos, neg_ℤ, sub_ℕ, ◌-ℤ◌}
use lib.Signed.{◌≤ℤ◌, ◌<ℤ◌}
use Rattle.rules.specs.IfElse.{if_else}
use Rattle.session_rules.specs.declared.Step.{Step}
use Rattle.session_rules.specs.declared.Step.TheVariants.{Forward, Backward}
use Rattle.session_rules.specs.Step.{step_of}
use Rattle.session_rules.proofs.Steps as ledger
use Rattle.session_rules.proofs.Steps.{step-reads}
use Rattle.books.specs.Rule.{step}
use Rattle.steps.specs.Signed.{number_of, signed, Stamps, last_stamp, along, lowest, highest, InRange, Modulo}
use Rattle.steps.specs.Six.{Reads, RuleTakes, AddsUp, AllAddUp, Returns, Six}
use Rattle.integers.proofs.Integers.{Is, is_pos, is-neg, is_negative, is-sub, same, at_most, across, across-below, differ-alike, is-plus, is-times}
use Rattle.integers.proofs.Differences.{is-minus}

-- the number z is p − q, lies within its range, and leads from a to b but for turns of the clock
pub record Leads (a b : ℕ) (z : ℤ) : Type 0 where
  pub p : ℕ
  pub q : ℕ
  pub is : Is z p q
  pub low : q ≤ p + 2 ^ 31
  pub high : p < q + 2 ^ 31
  pub u : ℕ
  pub v : ℕ
  pub turns : a + p + u * 2 ^ 32 ≡ b + q + v * 2 ^ 32

pub leads : (a b : ℕ) → a < 2 ^ 32 → b < 2 ^ 32 → Leads a b (signed a b)
leads a b h k = go (step_of a b) (step-reads a b h k)
  where
    go : (s : Step) → ledger.Reads a b s → Leads a b (number_of s)
    go (Forward n) r = record {
      p = n;
      q = 0;
      is = is_pos n;
      low = omega arith;
      high = omega (arith, r.0);
      u = 0;
      v = (a + n) / 2 ^ 32;
      turns = omega (arith, r.1);
    }
    go (Backward n) r = record {
      p = 0;
      q = n;
      is = is_negative n;
      low = omega (arith, r.1);
      high = omega (arith, r.0);
      u = (b + n) / 2 ^ 32;
      v = 0;
      turns = omega (arith, r.2);
    }

-- ---- ranges and multiples, as differences
is-lowest : Is lowest 0 (2 ^ 31)
is-lowest = is_negative (2 ^ 31)

in-range : (z : ℤ) (p q : ℕ) → Is z p q → q ≤ p + 2 ^ 31 → p < q + 2 ^ 31 → InRange z
in-range z p q e h k =
    record {
      low = at_most lowest z 0 (2 ^ 31) p q is-lowest e (omega arith);
      high = at_most z highest p q (2 ^ 31 - 1) 0 e (is_pos (2 ^ 31 - 1)) (omega arith);
    }

pub modulo : (x y : ℤ) (p q r s u v : ℕ) → Is x p q → Is y r s → p + s + u * 2 ^ 32 ≡ r + q + v * 2 ^ 32 → Modulo x y
modulo x y p q r s u v e f h =
    record {
      times = sub_ℕ v u;
      multiple =
          same (x -ℤ y) _ (p + s) (q + r) (v * 2 ^ 32) (u * 2 ^ 32) (is-minus x y p q r s e f) (is-times (sub_ℕ v u) v u (2 ^ 32) (is-sub v u))
          (omega arith);
    }

-- ---- the laws
reads : (a b : ℕ) → a < 2 ^ 32 → b < 2 ^ 32 → Reads a b
reads a b h k =
    let l = leads a b h k in
    record {
      range = in-range (signed a b) l.p l.q l.is l.low l.high;
      difference =
          modulo (signed a b) (pos b -ℤ pos a) l.p l.q (b + 0) (0 + a) l.u l.v l.is
          (is-minus (pos b) (pos a) b 0 a 0 (is_pos b) (is_pos a)) (omega (arith, l.turns));
    }

-- a sum that leads from a to c too, in its range or not: the step is equal to it modulo 2^32, and exactly where it lies in the range
module _ (a c : ℕ) (h : a < 2 ^ 32) (m : c < 2 ^ 32) (x : ℤ) (p q u v : ℕ) (e : Is x p q) (t : a + p + u * 2 ^ 32 ≡ c + q + v * 2 ^ 32) where
  sum-always : Modulo (signed a c) x
  sum-always =
      let z = leads a c h m in modulo (signed a c) x z.p z.q p q (z.u + v) (z.v + u) z.is e (omega (arith, t, z.turns))

  sum-exactly : (signed a c ≡ x) ↔ InRange x
  sum-exactly = (
    λ f. subst InRange f (reads a c h m).range,
    λ r.
        let z = leads a c h m in
        let low = across lowest x 0 (2 ^ 31) p q is-lowest e r.low in
        let high = across x highest p q (2 ^ 31 - 1) 0 e (is_pos (2 ^ 31 - 1)) r.high in
        same (signed a c) x z.p z.q p q z.is e (omega (arith, t, z.turns, z.low, z.high, low, high)),
  )

adds-up : (a b c : ℕ) → a < 2 ^ 32 → b < 2 ^ 32 → c < 2 ^ 32 → AddsUp a b c
adds-up a b c h k m =
    let x = leads a b h k in
    let y = leads b c k m in
    let e = is-plus (signed a b) (signed b c) x.p x.q y.p y.q x.is y.is in
    let t : a + (x.p + y.p) + (x.u + y.u) * 2 ^ 32 ≡ c + (x.q + y.q) + (x.v + y.v) * 2 ^ 32 = omega (arith, x.turns, y.turns) in
    record { always = sum-always a c h m _ _ _ _ _ e t; exactly = sum-exactly a c h m _ _ _ _ _ e t }

-- the steps along a row
record Along (a last : ℕ) (z : ℤ) : Type 0 where
  below : last < 2 ^ 32
  p : ℕ
  q : ℕ
  is : Is z p q
  u : ℕ
  v : ℕ
  turns : a + p + u * 2 ^ 32 ≡ last + q + v * 2 ^ 32

leads-along : (a : ℕ) (bs : List ℕ) → Stamps (a ∷ bs) → Along a (last_stamp a bs) (along a bs)
leads-along a [] s = record { below = s.0; p = 0; q = 0; is = is_pos 0; u = 0; v = 0; turns = refl }
leads-along a (b ∷ bs) s =
    let x = leads a b s.0 s.1.0 in
    let y = leads-along b bs s.1 in
    record {
      below = y.below;
      p = x.p + y.p;
      q = x.q + y.q;
      is = is-plus (signed a b) (along b bs) x.p x.q y.p y.q x.is y.is;
      u = x.u + y.u;
      v = x.v + y.v;
      turns = omega (arith, x.turns, y.turns);
    }

all-add-up : (a : ℕ) (bs : List ℕ) → Stamps (a ∷ bs) → AllAddUp a bs
all-add-up a bs s =
    let w = leads-along a bs s in
    record {
      always = sum-always a (last_stamp a bs) s.0 w.below (along a bs) w.p w.q w.u w.v w.is w.turns;
      exactly = sum-exactly a (last_stamp a bs) s.0 w.below (along a bs) w.p w.q w.u w.v w.is w.turns;
    }

to-itself : (a : ℕ) → a < 2 ^ 32 → signed a a ≡ pos 0
to-itself a h = let l = leads a a h h in same (signed a a) (pos 0) l.p l.q 0 0 l.is (is_pos 0) (omega (arith, l.turns, l.low, l.high))

module _ (a b : ℕ) (h : a < 2 ^ 32) (k : b < 2 ^ 32) where
  returns : Returns a b
  returns =
      let x = leads a b h k in
      let y = leads b a k h in
      record {
        negative = λ n.
            let other : x.p + 2 ^ 31 ≡ 0 + x.q → ⊥ = λ e. n (same (signed a b) lowest x.p x.q 0 (2 ^ 31) x.is is-lowest e) in
            same (signed b a) (neg_ℤ (signed a b)) y.p y.q x.q x.p y.is (is-neg (signed a b) x.p x.q x.is)
            (omega (arith, other, x.turns, y.turns, x.low, x.high, y.low, y.high));
        its_own = λ e.
            let here = differ-alike lowest x.p x.q 0 (2 ^ 31) (subst (λ (z : ℤ). Is z x.p x.q) e x.is) is-lowest in
            same (signed b a) lowest y.p y.q 0 (2 ^ 31) y.is is-lowest (omega (arith, here, x.turns, y.turns, y.low, y.high));
      }

-- what the rule makes of a step of m, read as signed
record TakenAs (z : ℤ) (ticks backward : ℕ) : Type 0 where
  on : pos 0 ≤ℤ z → (pos ticks ≡ z) × (backward ≡ 0)
  under : z <ℤ pos 0 → (ticks ≡ 0) × (backward ≡ 1)

taken_as : (m : ℕ) → m < 2 ^ 32 → (t : Bool) → TakenAs (number_of (if_else t (Forward m) (Backward (2 ^ 32 - m)))) (cond t m 0) (cond t 0 1)
unfolding if_else
taken_as m h true =
    record {
      on = λ k. (refl, refl);
      under = λ k. let n = across-below (pos m) (pos 0) m 0 0 0 (is_pos m) (is_pos 0) k in absurd (omega (arith, n));
    }
taken_as m h false =
    record {
      on = λ k. let n = across (pos 0) (neg_ℤ (pos (2 ^ 32 - m))) 0 0 0 (2 ^ 32 - m) (is_pos 0) (is_negative (2 ^ 32 - m)) k in absurd (omega (arith, n));
      under = λ k. (refl, refl);
    }

rule-takes : (a b : ℕ) → RuleTakes a b
rule-takes a b = let r = taken_as (step a b) (omega arith) (ltb (step a b) (2 ^ 31)) in record { ticks = r.on; backward = r.under }

pub six : Six
six = record { reads = reads; rule-takes = rule-takes; adds-up = adds-up; all-add-up = all-add-up; to-itself = to-itself; returns = returns }
