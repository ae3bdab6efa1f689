-- One answer of each public function: any two that its promise allows are equal.
use Prim.Native.Nat.{ℕ}
use mathlib.Core.Path.{◌≡◌, sym, ◌∙◌}
use mathlib.Core.List.{List}
use mathlib.Core.Bool.{Bool}
use Rattle.intervals.specs.Intervals.{offered}

pub offers-unique : (s : List ℕ) (p k x : ℕ) (a b : Bool) → a ≡ offered s p k x → b ≡ offered s p k x → a ≡ b
offers-unique s p k x a b e f = e ∙ sym f
