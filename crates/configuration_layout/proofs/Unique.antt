-- The promise leaves one answer: it says which.
use Rattle.rules.specs.Verdicts.{Verdict}
use Prim.Native.Nat.{ℕ}
use mathlib.Core.Path.{◌≡◌, sym, ◌∙◌}
use mathlib.Core.List.{List}
use Rattle.configuration_layout.specs.Inner.{layout_verdict}

pub judge-unique : (s : List ℕ) (x y : Verdict) → x ≡ layout_verdict s → y ≡ layout_verdict s → x ≡ y
judge-unique s x y p q = p ∙ sym q
