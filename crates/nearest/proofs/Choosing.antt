-- The nearest of the numbers a, a + d, .. up to b: where the wanted number w lies decides.
use Prim.Native.Nat.{ℕ, suc, ◌+◌, ◌-◌, ◌*◌, ◌/◌, ◌%◌, ◌≤◌, ◌<◌}
use mathlib.Core.Path.{◌≡◌, refl}
use mathlib.Core.Bool.{Bool, true, false}
use mathlib.Core.Logic.{◌⊎◌, inl, inr}
use lib.Dec.{ltb}
use borrow.Author.Tests.{ltb-true, ltb-false}
use native.Mathlib.Omega.{arith}
use native.Mathlib.Nat.{mod-lt, mod-le, div-add-mod', mul-le-mul_right, suc-mul}
use Rattle.nearest.specs.Inner.{distance, Closest}

-- r is as near to w as m, and the lower of the two where both are as near
pub record Beats (w r m : ℕ) : Type 0 where
  pub nearest : distance r w ≤ distance m w
  pub lower : distance m w ≡ distance r w → r ≤ m

-- the last number of the row that is at most x
abbrev pub last : ℕ → ℕ → ℕ → ℕ
last a d x = x - (x - a) % d

module _ (a b d w : ℕ) where
  -- a number of the row is at most the k-th, or at least the next
  around : (k t : ℕ) → (a + t * d ≤ a + k * d) ⊎ (a + k * d + d ≤ a + t * d)
  around k t = go (ltb k t) refl
    where
      go : (q : Bool) → ltb k t ≡ q → (a + t * d ≤ a + k * d) ⊎ (a + k * d + d ≤ a + t * d)
      go true e = inr (omega (arith, mul-le-mul_right d (ltb-true k t e), suc-mul k d))
      go false e = inl (omega (arith, mul-le-mul_right d (ltb-false k t e)))

  by-beating : (k r : ℕ) → r ≡ a + k * d → r ≤ b → ((t : ℕ) → a + t * d ≤ b → Beats w r (a + t * d)) → Closest a b d w r
  by-beating k r e h f = record { times = k; multiple = e; at_most = h; nearest = λ t l. (f t l).nearest; lower = λ t l q. (f t l).lower q }

  row : (x : ℕ) → a ≤ x → last a d x ≡ a + (x - a) / d * d
  row x h = omega (arith, div-add-mod' (x - a) d)

  pub lowest : w ≤ a → a ≤ b → Closest a b d w a
  lowest h l = by-beating 0 a (omega arith) l (λ t k. record { nearest = omega arith; lower = λ q. omega arith })

  module _ (x : ℕ) (above_low : a ≤ x) (some : 0 < d) where
    pub no-nearer : x ≤ w → x ≤ b → b < last a d x + d → Closest a b d w (last a d x)
    no-nearer g h l = by-beating ((x - a) / d) (last a d x) (row x above_low) (omega arith) (λ t k. beats t k (around ((x - a) / d) t))
      where
        beats : (t : ℕ) → a + t * d ≤ b → (a + t * d ≤ a + (x - a) / d * d) ⊎ (a + (x - a) / d * d + d ≤ a + t * d) → Beats w (last a d x) (a + t * d)
        beats t k (inl m) = let e = row x above_low in record { nearest = omega arith; lower = λ q. omega arith }
        beats t k (inr m) = let e = row x above_low in absurd (omega arith)

  module _ (above_low : a ≤ w) (some : 0 < d) where
    is-next : last a d w + d ≡ a + suc ((w - a) / d) * d
    is-next = rw (row w above_low, suc-mul) (omega arith)

    pub the-next : last a d w + d ≤ b → last a d w + d - w < w - last a d w → Closest a b d w (last a d w + d)
    the-next h l = by-beating (suc ((w - a) / d)) (last a d w + d) is-next h (λ t k. beats t k (around ((w - a) / d) t))
      where
        beats : (t : ℕ) → a + t * d ≤ b → (a + t * d ≤ a + (w - a) / d * d) ⊎ (a + (w - a) / d * d + d ≤ a + t * d) → Beats w (last a d w + d) (a + t * d)
        beats t k (inl m) = let e = row w above_low in let g = mod-lt (w - a) some in record { nearest = omega arith; lower = λ q. omega arith }
        beats t k (inr m) = let e = row w above_low in let g = mod-lt (w - a) some in record { nearest = omega arith; lower = λ q. omega arith }

    pub the-lower : w ≤ b → w - last a d w ≤ last a d w + d - w → Closest a b d w (last a d w)
    the-lower h l = by-beating ((w - a) / d) (last a d w) (row w above_low) (omega arith) (λ t k. beats t k (around ((w - a) / d) t))
      where
        beats : (t : ℕ) → a + t * d ≤ b → (a + t * d ≤ a + (w - a) / d * d) ⊎ (a + (w - a) / d * d + d ≤ a + t * d) → Beats w (last a d w) (a + t * d)
        beats t k (inl m) = let e = row w above_low in record { nearest = omega arith; lower = λ q. omega arith }
        beats t k (inr m) = let e = row w above_low in record { nearest = omega arith; lower = λ q. omega arith }

  pub the_last : a ≤ b → 0 < d → b ≤ w → Closest a b d w (last a d b)
  the_last h s l = no-nearer b h s l (omega arith) (omega (arith, mod-lt (b - a) s))

-- what the code subtracts is there
pub rest_below : (a d x : ℕ) → a ≤ x → (x - a) % d ≤ x
rest_below a d x h = omega (arith, mod-le (x - a) d)

pub next-above : (a d x : ℕ) → 0 < d → a ≤ x → x ≤ last a d x + d
next-above a d x s h = omega (arith, mod-lt (x - a) s)
