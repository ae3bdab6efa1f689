-- Each promise leaves one answer, and one content of the lent marks.
use Prim.Native.Nat.{ℕ}
use mathlib.Core.Path.{◌≡◌, sym, ◌∙◌}
use mathlib.Core.List.{List}
use mathlib.Core.Bool.{Bool}
use Rattle.used_ids.specs.Marks.{no_marks, marked, with_mark}

pub none-unique : (r s : List ℕ) → r ≡ no_marks → s ≡ no_marks → r ≡ s
none-unique r s p q = p ∙ sym q

pub has-unique : (m : List ℕ) (id : ℕ) (r s : Bool) → r ≡ marked m id → s ≡ marked m id → r ≡ s
has-unique m id r s p q = p ∙ sym q

pub with-unique : (m : List ℕ) (id : ℕ) (r s : List ℕ) → r ≡ with_mark m id → s ≡ with_mark m id → r ≡ s
with-unique m id r s p q = p ∙ sym q
