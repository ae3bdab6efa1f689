-- A word by its first two bytes, and by its name.
use Prim.Native.Nat.{ℕ, ◌<◌, ◌≤◌}
use mathlib.Core.Path.{◌≡◌, refl, sym, ◌∙◌}
use mathlib.Core.Bool.{Bool, true, false}
use mathlib.Core.List.{List, [], ◌∷◌}
use lib.Dec.{eqb}
use lib.ListN.{length, get_or}
use native.Mathlib.Omega.{arith}
use borrow.Author.Tests.{eq-eqb, ne_eqb}
use Rattle.trace_arguments.specs.Words.{dashed}

-- a comparison that says no
pub unlike : (t : Bool) (x y : List ℕ) → t ≡ false → (x ≡ y → t ≡ true) → x ≡ y → ⊥
unlike t x y n f e = let z : false ≡ true = sym n ∙ f e in let o : ◌≡◌ {A = ℕ} 0 1 = cc in omega arith

pub too_short : (w : List ℕ) → length w < 2 → false ≡ dashed w
too_short [] h = refl
too_short (a ∷ []) h = refl
too_short (a ∷ b ∷ l) h = absurd (omega arith)

pub first-other : (w : List ℕ) → (get_or w 0 0 ≡ 45 → ⊥) → false ≡ dashed w
first-other [] h = refl
first-other (a ∷ []) h = refl
first-other (a ∷ b ∷ l) h = rw (ne_eqb a 45 h) refl

pub by-second : (w : List ℕ) → 2 ≤ length w → get_or w 0 0 ≡ 45 → eqb (get_or w 1 0) 45 ≡ dashed w
by-second [] h e = absurd (omega arith)
by-second (a ∷ []) h e = absurd (omega arith)
by-second (a ∷ b ∷ l) h e = rw (eq-eqb a 45 e) refl
