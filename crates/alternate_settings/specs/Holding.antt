-- Which setting holds a payload size, and which of them is picked, in document 02's words. `l` is the list of an interface's settings.
use Rattle.std.specs.Prelude.{ℕ, ◌≤◌, ◌<◌, ◌≡◌, List, ◌⊎◌, length, get_or}
use Rattle.alternate_settings.specs.declared.Setting.{Setting}

abbrev pub no_setting : Setting
no_setting = record { number = 0; bytes = 0 }

-- one of the settings holds the payload size p
pub record Holds (l : List Setting) (p : ℕ) (x : Setting) : Type 0 where
  pub place : ℕ
  pub inside : place < length l
  pub same : get_or l place no_setting ≡ x
  pub enough : p ≤ x.bytes

-- it has the fewest bytes of those that do, and the lowest number on a tie
pub record Fewest (l : List Setting) (p : ℕ) (x : Setting) : Type 0 where
  pub holds : Holds l p x
  pub least : (y : Setting) → Holds l p y → (x.bytes < y.bytes) ⊎ ((x.bytes ≡ y.bytes) × (x.number ≤ y.number))

-- none does
abbrev pub NoneHolds : List Setting → ℕ → Type 0
NoneHolds l p = (y : Setting) → Holds l p y → ⊥
