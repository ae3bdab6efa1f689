-- Two answers that a promise allows are equal.
use Rattle.session_rules.specs.Options.{Stamp}
use Prim.Native.Nat.{ℕ}
use mathlib.Core.Path.{◌≡◌, sym, ◌∙◌}
use mathlib.Core.Bool.{Bool}
use mathlib.Core.List.{List}
use lib.Dec.{ltb}
use Rattle.session_rules.specs.Layouts.{header_layout}
use Rattle.session_rules.specs.Transfer.{need_of, stamp_of, reading_of}
use Rattle.sizes.specs.declared.Opening.{Opening}
use Rattle.sizes.specs.declared.HeaderKind.TheVariants.{Old}
use Rattle.session_rules.specs.declared.Reading.{Reading}

pub read-unique : (o : Opening) (t : List ℕ) (r s : Reading) → r ≡ reading_of o t → s ≡ reading_of o t → r ≡ s
read-unique o t r s p q = p ∙ sym q

pub old-too-short-unique : (len flags : ℕ) (x y : Bool) → x ≡ ltb len (need_of (header_layout Old) flags) → y ≡ ltb len (need_of (header_layout Old) flags) → x ≡ y
old-too-short-unique len flags x y p q = p ∙ sym q

pub old-stamp-unique : (t : List ℕ) (flags : ℕ) (x y : Stamp) → x ≡ stamp_of (header_layout Old) t flags → y ≡ stamp_of (header_layout Old) t flags → x ≡ y
old-stamp-unique t flags x y p q = p ∙ sym q
