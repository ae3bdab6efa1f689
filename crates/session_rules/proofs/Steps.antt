-- The signed step between two stamps: it lies within its range, equals the difference modulo 2^32, and is the only number that does both.
use Prim.Native.Nat.{ℕ, ◌+◌, ◌-◌, ◌%◌, ◌≤◌, ◌<◌, ◌^◌}
use mathlib.Core.Path.{◌≡◌, refl, ap}
use mathlib.Core.Bool.{Bool, true, false}
use native.Mathlib.Omega.{arith}
use lib.Dec.{ltb}
use borrow.Author.Tests.{ltb-true, ltb-false, lt-ltb, le-ltb}
use Rattle.rules.specs.IfElse.{if_else, yes, no}
use Rattle.session_rules.specs.declared.Step.{Step}
use Rattle.session_rules.specs.declared.Step.TheVariants.{Forward, Backward}
use Rattle.session_rules.specs.Step.{ahead_of, step_of}

-- from 0 to 2^31 − 1 forward, or from 1 to 2^31 backward; and the earlier stamp, that many ticks on, is the later one modulo 2^32
abbrev pub Reads : ℕ → ℕ → Step → Type 0
Reads earlier later (Forward n) = (n < 2 ^ 31) × ((earlier + n) % 2 ^ 32 ≡ later)
Reads earlier later (Backward n) = (0 < n) × (n ≤ 2 ^ 31) × ((later + n) % 2 ^ 32 ≡ earlier)

module _ (a b : ℕ) (p : a < 2 ^ 32) (q : b < 2 ^ 32) where
  forward : ahead_of a b < 2 ^ 31 → Reads a b (Forward (ahead_of a b))
  forward h = (h, omega arith)

  backward : 2 ^ 31 ≤ ahead_of a b → Reads a b (Backward (2 ^ 32 - ahead_of a b))
  backward h = (omega arith, omega arith, omega arith)

  pub step-reads : Reads a b (step_of a b)
  unfolding if_else
  step-reads = go (ltb (ahead_of a b) (2 ^ 31)) refl
    where
      go : (t : Bool) → ltb (ahead_of a b) (2 ^ 31) ≡ t → Reads a b (if_else t (Forward (ahead_of a b)) (Backward (2 ^ 32 - ahead_of a b)))
      go true e = forward (ltb-true (ahead_of a b) (2 ^ 31) e)
      go false e = backward (ltb-false (ahead_of a b) (2 ^ 31) e)

  pub step-only : (s : Step) → Reads a b s → s ≡ step_of a b
  step-only (Forward n) r =
      let e : n ≡ ahead_of a b = omega (arith, r.0, r.1) in
      yes (ltb (ahead_of a b) (2 ^ 31)) _ _ _ (lt-ltb (ahead_of a b) (2 ^ 31) (omega (arith, r.0))) (ap Forward e)
  step-only (Backward n) r =
      let e : n ≡ 2 ^ 32 - ahead_of a b = omega (arith, r.0, r.1, r.2) in
      no (ltb (ahead_of a b) (2 ^ 31)) _ _ _ (le-ltb (ahead_of a b) (2 ^ 31) (omega (arith, r.1, r.2, r.0))) (ap Backward e)

-- P: from FFFFFFF0 to 00000010 is 32; from 0 to 7FFFFFFF forward; from 0 to 80000000 backward
pub over-the-end : step_of 0xFFFFFFF0 0x00000010 ≡ Forward 32
unfolding if_else
over-the-end = refl

pub half-way : step_of 0 0x7FFFFFFF ≡ Forward 2147483647
unfolding if_else
half-way = refl

pub past-half-way : step_of 0 0x80000000 ≡ Backward 2147483648
unfolding if_else
past-half-way = refl
