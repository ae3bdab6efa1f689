-- Two answers that a promise allows are equal.
use Prim.Native.Nat.{ℕ}
use mathlib.Core.Path.{◌≡◌, sym, ◌∙◌}
use mathlib.Core.Bool.{Bool}
use mathlib.Core.List.{List}
use Rattle.sizes.specs.declared.Opening.{Opening}
use Rattle.session_rules.specs.declared.Phase.{Phase}
use Rattle.rule_50.specs.Inner.{rest_broken, posted_broken}

pub rest-unique : (o : Opening) (p : Phase) (n : ℕ) (x y : Bool) → x ≡ rest_broken o p n → y ≡ rest_broken o p n → x ≡ y
rest-unique o p n x y e f = e ∙ sym f

pub posted-unique : (l : List ℕ) (n : ℕ) (x y : Bool) → x ≡ posted_broken l n → y ≡ posted_broken l n → x ≡ y
posted-unique l n x y e f = e ∙ sym f
