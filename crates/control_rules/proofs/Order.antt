-- The order in which a descriptor's rules are checked.
use Prim.Native.Nat.{ℕ}
use mathlib.Core.Path.{◌≡◌, refl}
use mathlib.Core.List.{List, [], ◌∷◌, map}
use mathlib.Core.Bool.{Bool}
use Rattle.rules.specs.Numbered.{Row}
use Rattle.rules.proofs.Rows.{is_elsewhere, once_each, Once}
use Rattle.control_rules.specs.Rules.{rows_in, kind_rows, entity_rows}
use Rattle.entities.specs.declared.Revision.{Revision}

pub order : (v : Revision) (s : List ℕ) (o : ℕ) (u : Bool) (n : ℕ) → map (λ (r : Row). r.number) (rows_in v s o u n) ≡ 5 ∷ 6 ∷ 7 ∷ 8 ∷ 9 ∷ 10 ∷ 11 ∷ 12 ∷ []
unfolding rows_in kind_rows entity_rows
order v s o u n = refl

-- each number stands once
pub once : (v : Revision) (s : List ℕ) (o : ℕ) (u : Bool) (n : ℕ) → Once (rows_in v s o u n)
unfolding rows_in kind_rows entity_rows once_each is_elsewhere
once v s o u n = refl
