-- One answer of each public function: any two that its promise allows are equal.
use Prim.Native.Nat.{ℕ}
use mathlib.Core.Path.{◌≡◌, sym, ◌∙◌}
use mathlib.Core.Bool.{Bool}
use Rattle.pictures.specs.Pictures.{untrue}

pub untrue-unique : (sort bits width height size : ℕ) (a b : Bool) → a ≡ untrue sort bits width height size → b ≡ untrue sort bits width height size → a ≡ b
untrue-unique sort bits width height size a b e f = e ∙ sym f
