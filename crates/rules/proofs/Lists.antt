-- A list of no elements.
use mathlib.Core.Path.{◌≡◌, refl}
use mathlib.Core.List.{List, [], ◌∷◌}
use lib.ListN.{length}
use native.Mathlib.Omega.{arith}

pub no-elements : {A : Type 0} (l : List A) → length l ≡ 0 → l ≡ []
no-elements [] e = refl
no-elements (x ∷ l) e = absurd (omega arith)
