-- No byte is set exactly where all are zero.
use Prim.Native.Nat.{ℕ, zero, suc}
use mathlib.Core.Path.{◌≡◌, refl, ap, ◌∙◌}
use mathlib.Core.Bool.{Bool, true, false, not, ◌||◌, true≢false}
use mathlib.Core.List.{List, [], ◌∷◌}
use lib.ListN.{length, replicate}
use lib.Dec.{eqb}
use borrow.Author.Tests.{eqb-true}
use Rattle.fill.specs.Fill.{any_set}

pub none-set : (l : List ℕ) → any_set l ≡ false → l ≡ replicate (length l) 0
unfolding any_set
none-set [] e = refl
none-set (x ∷ xs) e = go (eqb x 0) refl e (none-set xs)
  where
    go : (c : Bool) → eqb x 0 ≡ c → (not c || any_set xs) ≡ false → (any_set xs ≡ false → xs ≡ replicate (length xs) 0) → x ∷ xs ≡ replicate (length (x ∷ xs)) 0
    go true q f k = ap (λ (y : ℕ). y ∷ xs) (eqb-true x 0 q) ∙ ap (λ (m : List ℕ). 0 ∷ m) (k f)
    go false q f k = absurd (true≢false f)

pub zeros-unset : (k : ℕ) → any_set (replicate k 0) ≡ false
unfolding any_set
zeros-unset zero = refl
zeros-unset (suc k) = zeros-unset k
