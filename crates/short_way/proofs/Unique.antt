-- Two answers that a promise allows are equal.
use Prim.Native.Nat.{ℕ}
use mathlib.Core.Path.{◌≡◌, sym, ap, ◌∙◌}
use mathlib.Core.List.{List}
use Rattle.session_rules.specs.declared.Rest.{Rest}
use Rattle.session_rules.specs.declared.Taken.{Taken}
use Rattle.short_way.specs.Inner.{kept_with}

-- and two contents of the lent numbers: of gone_on, and the first of keep
pub kept-unique : (t : Taken) (x y : Rest) (m k : List ℕ) → kept_with x m ≡ t → kept_with y k ≡ t → (x ≡ y) × (m ≡ k)
kept-unique t x y m k p q = (
  ap (λ (z : Taken). z.session.rest) (p ∙ sym q),
  ap (λ (z : Taken). z.session.numbers) (p ∙ sym q),
)
