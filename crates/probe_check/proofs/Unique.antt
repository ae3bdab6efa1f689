-- One answer: any two that the promise allows are equal.
use Rattle.rules.specs.Verdicts.{Verdict}
use Prim.Native.Nat.{ℕ}
use mathlib.Core.Path.{◌≡◌, sym, ◌∙◌}
use mathlib.Core.List.{List}
use Rattle.entities.specs.declared.Table.{Table}
use Rattle.probe_check.specs.Answer.{check_of}

pub check-unique : (t : Table) (s b : List ℕ) (x y : Verdict) → x ≡ check_of t s b → y ≡ check_of t s b → x ≡ y
check-unique t s b x y p q = p ∙ sym q
