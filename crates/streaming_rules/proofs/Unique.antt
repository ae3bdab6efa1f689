-- One answer of each public function: any two that its promise allows are equal.
use Prim.Native.Nat.{ℕ}
use mathlib.Core.Path.{◌≡◌, sym, ◌∙◌}
use mathlib.Core.List.{List}
use mathlib.Core.Bool.{Bool}
use Rattle.std.specs.Prelude.{Result}
use Rattle.rules.specs.Numbered.{first_row, kept}
use Rattle.streaming_rules.specs.Rules.{head_rows, rows, offers_at}
use Rattle.streaming_rules.specs.declared.Sofar.{Sofar}

pub rule-at-unique : (s : List ℕ) (o : ℕ) (a : Sofar) (x y : Result (Unit {0}) ℕ) → x ≡ kept (first_row (rows s o a)) → y ≡ kept (first_row (rows s o a)) → x ≡ y
rule-at-unique s o a x y p q = p ∙ sym q

pub head-rule-unique : (t : ℕ) (s : List ℕ) (x y : Result (Unit {0}) ℕ) → x ≡ kept (first_row (head_rows t s)) → y ≡ kept (first_row (head_rows t s)) → x ≡ y
head-rule-unique t s x y p q = p ∙ sym q

pub offers-at-unique : (s : List ℕ) (o n : ℕ) (x y : Bool) → x ≡ offers_at s o n → y ≡ offers_at s o n → x ≡ y
offers-at-unique s o n x y p q = p ∙ sym q
