-- The promise leaves one answer.
use Prim.Native.Nat.{ℕ}
use mathlib.Core.Path.{◌≡◌, sym, ◌∙◌}
use mathlib.Core.Bool.{Bool}
use mathlib.Core.List.{List}
use lib.ListN.{drop}
use Rattle.fill.specs.Fill.{any_set}

pub any-set-unique : (r : List ℕ) (at : ℕ) (x y : Bool) → x ≡ any_set (drop at r) → y ≡ any_set (drop at r) → x ≡ y
any-set-unique r at x y p q = p ∙ sym q
