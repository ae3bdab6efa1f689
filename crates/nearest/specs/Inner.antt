-- What the contracts of the helpers cite, and a reader need not believe: words shifted so that their order is that of the integers, and the nearest of naturals.
use Rattle.std.specs.Prelude.{ℕ, ◌+◌, ◌-◌, ◌*◌, ◌%◌, ◌≤◌, ◌≡◌}
use Rattle.rules.specs.IfElse.{if_else}
use Rattle.camera_settings.specs.Numbers.{is_signed}
use Rattle.camera_settings.specs.declared.Setting.{Setting}

-- half a turn of 16 bits: there and back again
abbrev pub turned : ℕ → ℕ
turned w = (w + 32768) % 65536

unfoldable pub shifted : Setting → ℕ → ℕ
shifted s w = if_else (is_signed s) (turned w) w

abbrev pub distance : ℕ → ℕ → ℕ
distance a b = (a - b) + (b - a)

-- r is the nearest to w of the numbers a + t * d that are at most b
pub record Closest (a b d w r : ℕ) : Type 0 where
  pub times : ℕ
  pub multiple : r ≡ a + times * d
  pub at_most : r ≤ b
  pub nearest : (t : ℕ) → a + t * d ≤ b → distance r w ≤ distance (a + t * d) w
  pub lower : (t : ℕ) → a + t * d ≤ b → distance (a + t * d) w ≡ distance r w → r ≤ a + t * d
