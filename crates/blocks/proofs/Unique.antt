-- Each promise leaves one answer: it says which.
use Prim.Native.Nat.{ℕ}
use mathlib.Core.Path.{◌≡◌, sym, ◌∙◌}
use mathlib.Core.List.{List}
use mathlib.Core.Bool.{Bool}
use Rattle.rules.specs.Numbered.{first_row}
use Rattle.blocks.specs.Blocks.{whole_rows, length_broken, type_broken}
use Rattle.blocks.specs.declared.Limits.{Limits}

pub whole-rule-unique : (b : Limits) (s : List ℕ) (x y : ℕ) → x ≡ first_row (whole_rows b s) → y ≡ first_row (whole_rows b s) → x ≡ y
whole-rule-unique b s x y p q = p ∙ sym q

pub length-broken-unique : (s : List ℕ) (o : ℕ) (x y : Bool) → x ≡ length_broken s o → y ≡ length_broken s o → x ≡ y
length-broken-unique s o x y p q = p ∙ sym q

pub type-broken-unique : (s : List ℕ) (o : ℕ) (x y : Bool) → x ≡ type_broken s o → y ≡ type_broken s o → x ≡ y
type-broken-unique s o x y p q = p ∙ sym q
