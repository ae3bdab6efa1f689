-- What the tests of the functions say of the rules, in the order of the code.
use Prim.Native.Nat.{ℕ}
use mathlib.Core.Path.{◌≡◌}
use mathlib.Core.Bool.{true, false, not, ◌&&◌}
use lib.Dec.{eqb}
use borrow.Author.Tests.{eq-eqb, ne_eqb}

-- not both of two numbers are as they should be
module _ (a x b y : ℕ) where
  pub first-differs : (a ≡ x → ⊥) → not (eqb a x && eqb b y) ≡ true
  first-differs h = rw (ne_eqb a x h)

  pub second-differs : a ≡ x → (b ≡ y → ⊥) → not (eqb a x && eqb b y) ≡ true
  second-differs e h = rw (eq-eqb a x e, ne_eqb b y h)

  pub both-are : a ≡ x → b ≡ y → not (eqb a x && eqb b y) ≡ false
  both-are e h = rw (eq-eqb a x e, eq-eqb b y h)

-- a number is not as it should be, and is
pub differs : (a b n : ℕ) → n ≡ a → (n ≡ b → ⊥) → not (eqb a b) ≡ true
differs a b n e h = rw (← e, ne_eqb n b h)

pub agrees : (a b n : ℕ) → n ≡ a → n ≡ b → not (eqb a b) ≡ false
agrees a b n e h = rw (← e, eq-eqb n b h)
