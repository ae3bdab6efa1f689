-- Each promise leaves one answer.
use Rattle.std.specs.Prelude.{Option}
use Prim.Native.Nat.{ℕ}
use mathlib.Core.Path.{◌≡◌, sym, ap, ◌∙◌}
use mathlib.Core.List.{List}
use lib.ListN.{length, take}
use lib.Seq.{take_all}
use native.Mathlib.Omega.{arith}
use Rattle.entities.specs.Table.{entities_most, no_table, found_among, found_in}
use Rattle.entities.specs.declared.Entity.{Entity}
use Rattle.entities.specs.Revisions.{says_of}
use Rattle.entities.specs.declared.Revision.{Revision}
use Rattle.entities.specs.declared.Says.{Says}
use Rattle.entities.specs.declared.Table.{Table}

pub no-table-unique : (r s : Table) → r ≡ no_table → s ≡ no_table → r ≡ s
no-table-unique r s p q = p ∙ sym q

pub find-unique : (t : Table) (id : ℕ) (r s : Option ℕ) → r ≡ found_in t id → s ≡ found_in t id → r ≡ s
find-unique t id r s p q = p ∙ sym q

-- of places by value, and of lent ones
pub find-among-unique : (l : List Entity) (n id : ℕ) (r s : Option ℕ) → r ≡ found_among l n id → s ≡ found_among l n id → r ≡ s
find-among-unique l n id r s p q = p ∙ sym q

pub find-lent-unique : (l : List Entity) (n id : ℕ) (r s : Option ℕ) → r ≡ found_among (take entities_most l) n id → s ≡ found_among (take entities_most l) n id → r ≡ s
find-lent-unique l n id r s p q = p ∙ sym q

-- the lookups agree on a table whose places are lent
pub lookups-agree : (t : Table) (id : ℕ) (r s : Option ℕ) → length t.entities ≡ entities_most → r ≡ found_in t id → s ≡ found_among (take entities_most t.entities) t.count id → r ≡ s
lookups-agree t id r s n p q = p ∙ sym (q ∙ ap (λ (l : List Entity). found_among l t.count id) (take_all entities_most t.entities (omega arith)))

pub says-of-unique : (v : Revision) (r s : Says) → r ≡ says_of v → s ≡ says_of v → r ≡ s
says-of-unique v r s p q = p ∙ sym q
