-- Each promise leaves one answer: it says which.
use Rattle.std.specs.Prelude.{Option}
use Prim.Native.Nat.{ℕ}
use mathlib.Core.Path.{◌≡◌, sym, ◌∙◌}
use mathlib.Core.List.{List}
use Rattle.alternate_settings.specs.declared.Setting.{Setting}
use Rattle.alternate_settings.specs.Inner.{settings_of, kth_of, fewest_of}

pub kth-unique : (s : List ℕ) (n a k : ℕ) (x y : Option Setting) → x ≡ kth_of (settings_of s n a) k → y ≡ kth_of (settings_of s n a) k → x ≡ y
kth-unique s n a k x y p q = p ∙ sym q

pub fewest-unique : (s : List ℕ) (n a p : ℕ) (x y : Option Setting) → x ≡ fewest_of p (settings_of s n a) → y ≡ fewest_of p (settings_of s n a) → x ≡ y
fewest-unique s n a p x y e f = e ∙ sym f
