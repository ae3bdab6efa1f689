-- A number that is read is at most what it may be; so 256 stands for no number of 8 bits, and for no other.
use Rattle.std.specs.Prelude.{None, Option, Some}
use Prim.Native.Nat.{ℕ, ◌≤◌}
use mathlib.Core.Path.{◌≡◌, refl}
use mathlib.Core.Bool.{Bool, true, false, ◌||◌}
use mathlib.Core.List.{List, [], ◌∷◌}
use mathlib.Core.Logic.{◌↔◌}
use native.Mathlib.Omega.{arith}
use lib.Dec.{ltb}
use borrow.Author.Tests.{ltb-false}
use Rattle.rules.specs.IfElse.{if_else}
use Rattle.arguments.specs.Digits.{no_digit, next, spelt, number_of, number_or, byte_of}

not_none : (n : ℕ) → None ≡ Some n → ⊥
not_none n e = let z : ◌≡◌ {A = ℕ} 0 1 = cc in omega arith

second-down : (a b : Bool) → (a || b) ≡ false → b ≡ false
second-down false b e = e
second-down true b e = absurd (let z : ◌≡◌ {A = ℕ} 0 1 = cc in omega arith)

module _ (most : ℕ) where
  spelt-most : (v : ℕ) (l : List ℕ) (n : ℕ) → v ≤ most → spelt most v l ≡ Some n → n ≤ most
  unfolding spelt if_else
  spelt-most v [] n h e = let q : v ≡ n = cc in omega arith
  spelt-most v (d ∷ l) n h e = go (no_digit d || ltb most (next v d)) refl e (λ k q. spelt-most (next v d) l n k q)
    where
      go : (b : Bool) → (no_digit d || ltb most (next v d)) ≡ b → if_else b None (spelt most (next v d) l) ≡ Some n →
          (next v d ≤ most → spelt most (next v d) l ≡ Some n → n ≤ most) → n ≤ most
      go true p q rest = absurd (not_none n q)
      go false p q rest = rest (ltb-false most (next v d) (second-down (no_digit d) (ltb most (next v d)) p)) q

  pub at_most : (l : List ℕ) (n : ℕ) → number_of most l ≡ Some n → n ≤ most
  unfolding number_of
  at_most [] n e = absurd (not_none n e)
  at_most (d ∷ l) n e = spelt-most 0 (d ∷ l) n (omega arith) e

pub byte-most : (l : List ℕ) → byte_of l ≤ 256
unfolding byte_of
byte-most l = go (number_of 255 l) refl
  where
    go : (x : Option ℕ) → number_of 255 l ≡ x → number_or 256 x ≤ 256
    go (Some n) e = let h = at_most 255 l n e in omega arith
    go None e = omega arith

-- 256 exactly where the digits spell no number from 0 to 255
pub byte-none : (l : List ℕ) → (byte_of l ≡ 256) ↔ (number_of 255 l ≡ None)
unfolding byte_of
byte-none l = (λ e. to (number_of 255 l) refl e, λ e. rw e refl)
  where
    to : (x : Option ℕ) → number_of 255 l ≡ x → number_or 256 x ≡ 256 → x ≡ None
    to (Some n) e q = let h = at_most 255 l n e in absurd (omega arith)
    to None e q = refl
