-- What an answer of the lookup says: nothing, an output terminal, or a place as one bit.
use Rattle.std.specs.Prelude.{None, Option, Some, is_some}
use Prim.Native.Nat.{ℕ, ◌*◌, ◌%◌, ◌^◌, ◌<◌}
use mathlib.Core.Path.{◌≡◌, refl, sym, ◌∙◌}
use mathlib.Core.Bool.{Bool, true, false, not, true≢false}
use mathlib.Core.Logic.{◌↔◌}
use lib.Dec.{eqb}
use lib.Seq.{get_or-take}
use borrow.Author.Tests.{eq-eqb, eqb-true}
use native.Mathlib.Omega.{arith}
use Rattle.bits.specs.Bits.{Bit}
use Rattle.bits.proofs.Bits.{bit-zero, one_bit, one-bit-only, shl_one}
use Rattle.graph.specs.Rows.{places}
use Rattle.entities.specs.Table.{entity_at, used}
use Rattle.entities.specs.declared.Table.{Table}

apart : (k : ℕ) → Some k ≡ None → ⊥
apart k e = let z : ◌≡◌ {A = ℕ} 0 1 = cc in omega arith

-- by the library's test
pub said-none : (f : Option ℕ) (b : Bool) → is_some f ≡ not b → (b ≡ true) ↔ (f ≡ None)
said-none None true e = (λ x. refl, λ x. refl)
said-none None false e = absurd (true≢false (sym e))
said-none (Some k) true e = absurd (true≢false e)
said-none (Some k) false e = (λ x. absurd (true≢false (sym x)), λ x. absurd (apart k x))

module _ (f : Option ℕ) where
  pub no-bit : f ≡ None → (j : ℕ) → Bit 0 j ↔ (f ≡ Some j)
  no-bit e j = (λ b. absurd (omega (arith, b, bit-zero j)), λ x. absurd (apart j (sym x ∙ e)))

  pub one_place : (k : ℕ) → f ≡ Some k → k < places → (j : ℕ) → Bit ((1 * 2 ^ k) % 2 ^ places) j ↔ (f ≡ Some j)
  one_place k e l j =
      let q : (1 * 2 ^ k) % 2 ^ places ≡ 2 ^ k = shl_one places k l in
      rw q (λ b. let z : j ≡ k = one-bit-only k j b in rw z e, λ x. let z : k ≡ j = cc in rw (← z) (one_bit k))

  module _ (t : Table) where
    pub no_output : f ≡ None → (false ≡ true) ↔ ((j : ℕ) × (f ≡ Some j) × ((entity_at (used t) j).kind ≡ 3))
    no_output e = (λ x. absurd (true≢false (sym x)), λ x. absurd (apart x.0 (sym x.1 ∙ e)))

    pub output-at : (k : ℕ) → f ≡ Some k → k < t.count → (eqb (entity_at t.entities k).kind 3 ≡ true) ↔ ((j : ℕ) × (f ≡ Some j) × ((entity_at (used t) j).kind ≡ 3))
    output-at k e l = (
      λ x. (k, e, rw get_or-take (eqb-true (entity_at t.entities k).kind 3 x)),
      λ x. let z : x.0 ≡ k = cc in eq-eqb (entity_at t.entities k).kind 3 (rw get_or-take at (rw z at x.2)),
    )
