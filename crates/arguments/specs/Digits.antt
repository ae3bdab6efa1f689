-- A number as an argument: what decimal digits spell, or none for anything but a number from 0 to `most`.
use Rattle.std.specs.Prelude.{ℕ, ◌+◌, ◌-◌, ◌*◌, List, [], ◌∷◌, Bool, ◌||◌, ltb, None, Option, Some}
use Rattle.rules.specs.IfElse.{if_else}

-- the byte is none of 0 to 9
abbrev pub no_digit : ℕ → Bool
no_digit d = ltb d 48 || ltb 57 d

-- the number spelt by the digits that stand before, one more digit on
abbrev pub next : ℕ → ℕ → ℕ
next v d = v * 10 + (d - 48)

unfoldable pub spelt : ℕ → ℕ → List ℕ → Option ℕ
spelt most v [] = Some v
spelt most v (d ∷ l) = if_else (no_digit d || ltb most (next v d)) None (spelt most (next v d) l)

unfoldable pub number_of : ℕ → List ℕ → Option ℕ
number_of most [] = None
number_of most (d ∷ l) = spelt most 0 (d ∷ l)

-- the number, or another where there is none
abbrev pub number_or : ℕ → Option ℕ → ℕ
number_or other (Some n) = n
number_or other None = other

-- a number of 8 bits, or 256
unfoldable pub byte_of : List ℕ → ℕ
byte_of l = number_or 256 (number_of 255 l)
