-- The same rules read without a walk: what it is for a control block to break none, and which is the first that it breaks.
use Rattle.std.specs.Prelude.{ℕ, ◌<◌, ◌≡◌, List, length}
use Rattle.rules.specs.Numbered.{Given, NoneOf}
use Rattle.rules.specs.Walk.{Reached, Clean, FirstBreak}
use Rattle.entities.specs.Table.{entity_at}
use Rattle.entities.specs.declared.Entity.{Entity}
use Rattle.control_rules.specs.Rules.{head_rows}
use Rattle.sources.specs.Sources.{Breaks13, Breaks14, Breaks15, NoEntity}
use Rattle.control.specs.Answer.{course}

-- the block breaks none of 1 to 4
abbrev pub BlockRight : List ℕ → Type 0
BlockRight s = NoneOf (head_rows s)

-- the block's descriptors fill it, one after the other from 0, and give these entities
abbrev pub Entities : List ℕ → List Entity → Type 0
Entities s seen = Reached (course s) seen (length s)

-- no rule is broken: by the block, by any of its descriptors, or by any entity's sources
pub record Sound (s : List ℕ) : Type 0 where
  pub block : BlockRight s
  pub descriptors : Clean (course s)
  pub sources : (seen : List Entity) → Entities s seen → NoEntity seen (Breaks13 s seen) × NoEntity seen (Breaks14 s seen) × NoEntity seen (Breaks15 s seen)

-- the first entity in block order that breaks the rule stands at o
pub record FirstEntity (seen : List Entity) (P : ℕ → Type 0) (o : ℕ) : Type 0 where
  pub place : ℕ
  pub inside : place < length seen
  pub broken : P place
  pub earliest : (i : ℕ) → i < place → P i → ⊥
  pub at : (entity_at seen place).offset ≡ o

-- rule k is the first that is broken, in the table's order, at the first place o that breaks it
pub data FirstBroken (s : List ℕ) : ℕ → ℕ → Type 0 where
  by-block : (k : ℕ) → Given (head_rows s) k → FirstBroken s k 0
  by-descriptor : (k o : ℕ) → BlockRight s → FirstBreak (course s) k o → FirstBroken s k o
  by-13 : (seen : List Entity) (o : ℕ) → BlockRight s → Clean (course s) → Entities s seen → FirstEntity seen (Breaks13 s seen) o → FirstBroken s 13 o
  by-14 : (seen : List Entity) (o : ℕ) → BlockRight s → Clean (course s) → Entities s seen → NoEntity seen (Breaks13 s seen) → FirstEntity seen (Breaks14 s seen) o → FirstBroken s 14 o
  by-15 : (seen : List Entity) (o : ℕ) → BlockRight s → Clean (course s) → Entities s seen → NoEntity seen (Breaks13 s seen) → NoEntity seen (Breaks14 s seen) → FirstEntity seen (Breaks15 s seen) o → FirstBroken s 15 o

-- A LOOP: nothing earlier is broken, and the first entity that is on a chain of sources that returns to its start stands at o
pub record Looped (s : List ℕ) (o : ℕ) : Type 0 where
  pub block : BlockRight s
  pub descriptors : Clean (course s)
  pub seen : List Entity
  pub entities : Entities s seen
  pub found : NoEntity seen (Breaks13 s seen)
  pub plain : NoEntity seen (Breaks14 s seen)
  pub loop : FirstEntity seen (Breaks15 s seen) o
