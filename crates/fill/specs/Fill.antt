-- Zero fill.
use Rattle.std.specs.Prelude.{ℕ, List, [], ◌∷◌, Bool, false, ◌||◌, not, eqb}

-- some byte is not zero
unfoldable pub any_set : List ℕ → Bool
any_set [] = false
any_set (b ∷ bs) = not (eqb b 0) || any_set bs
