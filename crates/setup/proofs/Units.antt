-- The test of a processing unit's ID says whether the block has such a unit.
use Rattle.std.specs.Prelude.{None, Option, Some}
use Rattle.rules.specs.Verdicts.{accept}
use Prim.Native.Nat.{ℕ, ◌<◌}
use mathlib.Core.Path.{◌≡◌, refl, sym, ap, ◌∙◌}
use mathlib.Core.List.{List}
use mathlib.Core.Bool.{Bool, true, false, not}
use lib.ListN.{length}
use lib.Dec.{eqb}
use borrow.Author.Tests.{eqb-true, eq-eqb}
use native.Mathlib.Omega.{arith}
use Rattle.entities.specs.Table.{processing_unit, entity_at, found_in}
use Rattle.entities.specs.declared.Entity.{Entity}
use Rattle.entities.specs.declared.Table.{Table}
use Rattle.control.specs.Answer.{ControlIs}
use Rattle.control_map.specs.Answer.{AcceptedWith}
use Rattle.control_map.proofs.Mapping.{entities-listed, the-list, at_place, found_none, found_at}
use Rattle.setup.specs.Setup.{UnitAt}
use Rattle.setup.specs.Inner.{unit_by, is_unit}

pub not-both : true ≡ false → ⊥
not-both e = let z : ◌≡◌ {A = ℕ} 0 1 = cc in omega arith

-- a test that is turned round
pub turned-true : (b : Bool) → not b ≡ true → b ≡ false
turned-true true e = absurd (not-both (sym e))
turned-true false e = refl

pub turned-false : (b : Bool) → not b ≡ false → b ≡ true
turned-false true e = refl
turned-false false e = absurd (not-both e)

-- ---- what the code's scan answers
pub unit-nothing : (t : Table) (id : ℕ) (f : Option ℕ) → f ≡ found_in t id → f ≡ None → false ≡ is_unit t id
unfolding is_unit
unit-nothing t id f e n = ap (unit_by t) (sym n ∙ e)

pub unit-found : (t : Table) (id i : ℕ) (f : Option ℕ) → f ≡ found_in t id → f ≡ Some i → eqb (entity_at t.entities i).kind processing_unit ≡ is_unit t id
unfolding is_unit
unit-found t id i f e n = ap (unit_by t) (sym n ∙ e)

-- at most one entity has an ID
pub one_unit : (s : List ℕ) (l : List Entity) → AcceptedWith s l → (id i j : ℕ) → UnitAt l id i → j < length l → (entity_at l j).id ≡ id → i ≡ j
one_unit s l a id i j u h e = (entities-listed s l a).distinct i j u.inside h (u.named ∙ sym e)

module _ (s : List ℕ) (t : Table) (c : ControlIs s (record { verdict = accept; table = t })) (id : ℕ) where
  pub no-unit : is_unit t id ≡ false → (i : ℕ) → UnitAt (the-list s t c).0 id i → ⊥
  unfolding is_unit
  no-unit n i u = go (found_in t id) refl n
    where
      go : (f : Option ℕ) → f ≡ found_in t id → unit_by t f ≡ false → ⊥
      go None e z = found_none s t c id None e refl i u.inside u.named
      go (Some j) e z =
          let w = found_at s t c id (Some j) e j refl in
          let k : i ≡ j = one_unit s (the-list s t c).0 (the-list s t c).1 id i j u w.0 w.1 in
          not-both (sym (eq-eqb (entity_at t.entities j).kind processing_unit (rw (at_place s t c j, ← k) u.kind)) ∙ z)

  pub some-unit : is_unit t id ≡ true → (i : ℕ) × UnitAt (the-list s t c).0 id i
  unfolding is_unit
  some-unit y = go (found_in t id) refl y
    where
      go : (f : Option ℕ) → f ≡ found_in t id → unit_by t f ≡ true → (i : ℕ) × UnitAt (the-list s t c).0 id i
      go None e z = absurd (not-both (sym z))
      go (Some j) e z =
          let w = found_at s t c id (Some j) e j refl in
          let k : (entity_at t.entities j).kind ≡ processing_unit = eqb-true (entity_at t.entities j).kind processing_unit z in
          (j, record { inside = w.0; named = w.1; kind = rw (at_place s t c j) at k })
