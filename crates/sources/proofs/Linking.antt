-- What the first q sources of an entity name, source by source.
use Rattle.std.specs.Prelude.{None, Option, Some}
use Prim.Native.Nat.{ℕ, ◌+◌, ◌≤◌, ◌<◌}
use mathlib.Core.Path.{◌≡◌, sym, ◌∙◌, subst}
use mathlib.Core.List.{List}
use mathlib.Core.Bool.{Bool, true, false, ◌||◌, true≢false}
use mathlib.Core.Logic.{◌⊎◌, inl, inr, ⊎_elim, ◌↔◌}
use lib.ListN.{length, get_or, length-take}
use lib.Bits.{bit_or}
use native.Mathlib.Omega.{arith}
use Rattle.rules.proofs.Firsts.{below-or-at}
use Rattle.rules.proofs.Rows.{or-either}
use Rattle.bits.specs.Bits.{Bit}
use Rattle.bits.proofs.Bits.{bit-zero, or_cases, or_l, or_r}
use Rattle.entities.specs.Table.{entity_at, find_from, used}
use Rattle.entities.specs.declared.Table.{Table}
use Rattle.entities.proofs.Finding.{found_within}
use Rattle.control_rules.specs.Descriptors.{kind_of, source_place}
use Rattle.entities.specs.declared.Entity.{Entity}
use Rattle.sources.specs.Sources.{sources_of, SomeBelow}
use Rattle.sources.specs.Links.{LinksOf}

-- ---- one of the first n, and of one more
some-none : (P : ℕ → Type 0) → SomeBelow 0 P → ⊥
some-none P x = omega (arith, x.1)

some_more : (P : ℕ → Type 0) (n : ℕ) {A B C : Type 0} → A ↔ SomeBelow n P → B ↔ P n → C ↔ (A ⊎ B) → C ↔ SomeBelow (n + 1) P
some_more P n a b c = (
  λ x. ⊎_elim (λ y. let z = a.0 y in (z.0, omega (arith, z.1), z.2)) (λ y. (n, omega arith, b.0 y)) (c.0 x),
  λ z. c.1 (⊎_elim (λ l. inl (a.1 (z.0, l, z.2))) (λ e. inr (b.1 (subst P e z.2))) (below-or-at z.0 n z.1)),
)

-- ---- the union of two rows
row-either : (x y j : ℕ) → Bit (bit_or x y) j ↔ (Bit x j ⊎ Bit y j)
row-either x y j = (or_cases x y j, λ z. ⊎_elim (or_l x y j) (or_r x y j) z)

-- ---- the loop's invariant: `found` answers for each source
abbrev pub Outputs : List Entity → Option ℕ → Type 0
Outputs l f = (j : ℕ) × (f ≡ Some j) × ((entity_at l j).kind ≡ 3)

pub record Linking (l : List Entity) (found : ℕ → Option ℕ) (lost output : Bool) (row q : ℕ) : Type 0 where
  pub nothing : (lost ≡ true) ↔ SomeBelow q (λ a. found a ≡ None)
  pub outputs : (output ≡ true) ↔ SomeBelow q (λ a. Outputs l (found a))
  pub places : (j : ℕ) → Bit row j ↔ SomeBelow q (λ a. found a ≡ Some j)

module _ (l : List Entity) (found : ℕ → Option ℕ) where
  pub linking : Linking l found false false 0 0
  linking = record {
    nothing = (λ x. absurd (true≢false (sym x)), λ x. absurd (some-none (λ a. found a ≡ None) x));
    outputs = (λ x. absurd (true≢false (sym x)), λ x. absurd (some-none (λ a. Outputs l (found a)) x));
    places = λ j. (λ x. absurd (omega (arith, x, bit-zero j)), λ x. absurd (some-none (λ a. found a ≡ Some j) x));
  }

  pub links-more : (lost output : Bool) (row q : ℕ) → Linking l found lost output row q
      → (f : Option ℕ) (a b : Bool) (x : ℕ) → f ≡ found q → (a ≡ true) ↔ (f ≡ None) → (b ≡ true) ↔ Outputs l f → ((j : ℕ) → Bit x j ↔ (f ≡ Some j))
      → Linking l found (lost || a) (output || b) (bit_or row x) (q + 1)
  links-more lost output row q w f a b x z n o p = record {
    nothing = some_more (λ c. found c ≡ None) q w.nothing (rw z at n) (or-either lost a);
    outputs = some_more (λ c. Outputs l (found c)) q w.outputs (rw z at o) (or-either output b);
    places = λ j. some_more (λ c. found c ≡ Some j) q (w.places j) (rw z at (p j)) (row-either row x j);
  }

-- the lookups of an entity's sources, from the place where the first stands
abbrev pub founds : List ℕ → List Entity → ℕ → ℕ → Option ℕ
founds s l place a = find_from 0 l (get_or s (place + a) 0)

pub linked : (s : List ℕ) (l : List Entity) (e : Entity) (r q : ℕ) (lost output : Bool) (row : ℕ) → r ≡ source_place (kind_of e.kind) → q ≡ sources_of s e
    → Linking l (founds s l (e.offset + r)) lost output row q → LinksOf s l e lost output row
linked s l e r q lost output row p z w =
    let v : Linking l (founds s l (e.offset + source_place (kind_of e.kind))) lost output row (sources_of s e) = rw (p, z) at w in
    record { nothing = v.nothing; outputs = v.outputs; places = v.places }

-- a place that is found is a used one
pub used-place : (t : Table) (x : ℕ) (f : Option ℕ) → f ≡ find_from 0 (used t) x → (j : ℕ) → f ≡ Some j → j < t.count
used-place t x f e j q = let h = found_within (used t) x j (sym e ∙ q) in let k : length (used t) ≤ t.count = simp length-take (omega arith) in omega arith
