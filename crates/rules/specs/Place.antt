-- The first place below n at which a test says yes, or n where it says yes at none.
use Rattle.std.specs.Prelude.{ℕ, zero, suc, Bool}
use Rattle.rules.specs.IfElse.{if_else}

unfoldable pub place_from : (ℕ → Bool) → ℕ → ℕ → ℕ
place_from test i zero = i
place_from test i (suc m) = if_else (test i) i (place_from test (suc i) m)

abbrev pub first_place : (ℕ → Bool) → ℕ → ℕ
first_place test n = place_from test 0 n
