-- What an accepted control block says of its entities, in document 01's words: of each in block order, with the descriptor that it was read from.
-- `s` is the block, `l` its entities.
use Rattle.std.specs.Prelude.{ℕ, ◌≤◌, ◌<◌, ◌≡◌, List, true, length, take, Some}
use Rattle.le.specs.Le.{byte}
use Rattle.rules.specs.Walk as walk
use Rattle.rules.specs.Chain.{OnLoop}
use Rattle.entities.specs.Table.{entities_most, output_terminal, entity_at, find_from}
use Rattle.entities.specs.declared.Entity.{Entity}
use Rattle.control_rules.specs.Descriptors.{selector, extension, kind_at, is_entity, Shaped}
use Rattle.control_rules.specs.Rules.{entity_of}
use Rattle.sources.specs.Sources.{sources_of, source_at, Feeds}
use Rattle.control.specs.Answer.{course}

-- a descriptor of the block starts at o
abbrev pub Starts : List ℕ → ℕ → Type 0
Starts s o = walk.Starts (course s) o

-- the entity e, with those before it
pub record Stands (s : List ℕ) (before : List Entity) (e : Entity) : Type 0 where
  -- it is what the terminal's or unit's descriptor at its offset says, and that has its kind's length and control size
  pub starts : Starts s e.offset
  pub entity : is_entity (kind_at s e.offset) ≡ true
  pub same : e ≡ entity_of s e.offset
  pub shaped : Shaped (kind_at s e.offset) s e.offset
  pub order : (j : ℕ) → j < length before → (entity_at before j).offset < e.offset
  pub nonzero : e.id ≡ 0 → ⊥
  -- p, the number of sources of a selector unit and of an extension unit, is 1 to 16
  pub selector-pins : kind_at s e.offset ≡ selector → (1 ≤ byte s e.offset 4) × (byte s e.offset 4 ≤ 16)
  pub extension-pins : kind_at s e.offset ≡ extension → (1 ≤ byte s e.offset 21) × (byte s e.offset 21 ≤ 16)

-- each has an ID of its own
abbrev pub Distinct : List Entity → Type 0
Distinct l = (i j : ℕ) → i < length l → j < length l → (entity_at l i).id ≡ (entity_at l j).id → i ≡ j

-- source q of e names an entity that is no output terminal
pub record Named (s : List ℕ) (l : List Entity) (e : Entity) (q : ℕ) : Type 0 where
  pub place : ℕ
  pub inside : place < length l
  pub found : find_from 0 l (source_at s e q) ≡ Some place
  pub plain : (entity_at l place).kind ≡ output_terminal → ⊥

pub record Listed (s : List ℕ) (l : List Entity) : Type 0 where
  pub entities : (i : ℕ) → i < length l → Stands s (take i l) (entity_at l i)
  -- and no entity of the block is left out
  pub each-entity : (o : ℕ) → Starts s o → is_entity (kind_at s o) ≡ true → (i : ℕ) × (i < length l) × ((entity_at l i).offset ≡ o)
  pub distinct : Distinct l
  pub few : length l ≤ entities_most
  -- every source names an entity that is no output terminal, and no chain of sources returns to its start
  pub named : (i : ℕ) → i < length l → (q : ℕ) → q < sources_of s (entity_at l i) → Named s l (entity_at l i) q
  pub no_loop : (i : ℕ) → i < length l → OnLoop (Feeds s l) i → ⊥
