-- Each promise leaves one answer.
use Prim.Native.Nat.{ℕ}
use mathlib.Core.Path.{◌≡◌, sym, ◌∙◌}
use mathlib.Core.Bool.{Bool}
use Rattle.bits.specs.Bits.{has_bit, with_bit}

pub has-unique : (x j : ℕ) (r s : Bool) → r ≡ has_bit x j → s ≡ has_bit x j → r ≡ s
has-unique x j r s p q = p ∙ sym q

pub with-unique : (x j r s : ℕ) → r ≡ with_bit x j → s ≡ with_bit x j → r ≡ s
with-unique x j r s p q = p ∙ sym q
