-- The library's search for a byte that is not zero is that of the definition.
use Prim.Native.Nat.{ℕ}
use mathlib.Core.Path.{◌≡◌, refl, ap}
use mathlib.Core.Bool.{not, ◌||◌}
use mathlib.Core.List.{List, [], ◌∷◌}
use lib.Dec.{eqb}
use Rattle.std.specs.List.{list_any}
use Rattle.fill.specs.Fill.{any_set}

pub searched : (bs : List ℕ) → list_any (λ b. not (eqb b 0)) bs ≡ any_set bs
unfolding any_set
searched [] = refl
searched (b ∷ bs) = ap (λ r. not (eqb b 0) || r) (searched bs)
