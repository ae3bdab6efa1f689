-- What the code gathers of one entity's sources.
use Rattle.std.specs.Prelude.{ℕ, ◌≡◌, List, ◌↔◌, Bool, true}
use Rattle.bits.specs.Bits.{Bit}
use Rattle.entities.specs.declared.Entity.{Entity}
use Rattle.sources.specs.Sources.{Lost, Names, ToOutput}

-- whether one names nothing, whether one names an output terminal, and a row of bits that shows the places they name
pub record LinksOf (s : List ℕ) (l : List Entity) (e : Entity) (lost output : Bool) (row : ℕ) : Type 0 where
  pub nothing : (lost ≡ true) ↔ Lost s l e
  pub outputs : (output ≡ true) ↔ ToOutput s l e
  pub places : (j : ℕ) → Bit row j ↔ Names s l e j
