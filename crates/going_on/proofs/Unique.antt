-- Two answers that a promise allows are equal.
use Prim.Native.Nat.{ℕ}
use mathlib.Core.Path.{◌≡◌, sym, ◌∙◌}
use mathlib.Core.Bool.{Bool}
use mathlib.Core.List.{List}
use Rattle.sizes.specs.declared.Opening.{Opening}
use Rattle.session_rules.specs.declared.Run.{Run}
use Rattle.session_rules.specs.OldKind.{old_header}
use Rattle.going_on.specs.GoingOn.{went_on}
use Rattle.going_on.specs.Bytes.{data_of, bytes_go_on}

pub goes-on-unique : (o : Opening) (r : Run) (t : List ℕ) (x y : Bool) → x ≡ bytes_go_on o r t → y ≡ bytes_go_on o r t → x ≡ y
goes-on-unique o r t x y p q = p ∙ sym q

pub went-on-unique : (r : Run) (t : List ℕ) (x y : Run) → x ≡ went_on r (old_header t) (data_of t) → y ≡ went_on r (old_header t) (data_of t) → x ≡ y
went-on-unique r t x y p q = p ∙ sym q
