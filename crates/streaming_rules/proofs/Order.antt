-- The order in which a descriptor's rules are checked.
use Prim.Native.Nat.{ℕ}
use mathlib.Core.Path.{◌≡◌, refl}
use mathlib.Core.List.{List, [], ◌∷◌, map}
use Rattle.rules.specs.Numbered.{Row}
use Rattle.rules.proofs.Rows.{is_elsewhere, once_each, Once}
use Rattle.streaming_rules.specs.Rules.{rows, kind_rows}
use Rattle.streaming_rules.specs.declared.Sofar.{Sofar}

pub order : (s : List ℕ) (o : ℕ) (a : Sofar) → map (λ (r : Row). r.number) (rows s o a) ≡ 25 ∷ 26 ∷ 27 ∷ 28 ∷ 29 ∷ 30 ∷ 31 ∷ 32 ∷ 33 ∷ 34 ∷ 39 ∷ 40 ∷ 35 ∷ []
unfolding rows kind_rows
order s o a = refl

-- each number stands once
pub once : (s : List ℕ) (o : ℕ) (a : Sofar) → Once (rows s o a)
unfolding rows kind_rows once_each is_elsewhere
once s o a = refl
