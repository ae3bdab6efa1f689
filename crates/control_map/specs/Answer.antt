-- Documents 01 and 02 (request Four): the control-map reader takes a block and an ID and gives the control bytes of that camera terminal or processing unit, with
-- their length.
use Rattle.rules.specs.Verdicts.{accept, refuse}
use Rattle.std.specs.Prelude.{ℕ, zero, suc, ◌+◌, ◌<◌, ◌≡◌, List, [], ◌∷◌, ◌++◌, length, get_or, replicate, leb}
use Rattle.le.specs.Le.{byte}
use Rattle.rules.specs.IfElse.{if_else}
use Rattle.entities.specs.Table.{entity_at}
use Rattle.entities.specs.declared.Entity.{Entity}
use Rattle.control_rules.specs.Descriptors.{kind_of, ControlsAt}
use Rattle.control.specs.Answer.{refused_by, accepted_with, ControlIs}
use Rattle.control.specs.Broken.{Entities}
use Rattle.control_map.specs.declared.Map.{Map}

-- the entity is a camera terminal or a processing unit, and its control size stands at this place of its descriptor
abbrev pub HasControls : Entity → ℕ → Type 0
HasControls e place = ControlsAt (kind_of e.kind) e.terminal place

-- the block is accepted with these entities
pub record AcceptedWith (s : List ℕ) (seen : List Entity) : Type 0 where
  pub entities : Entities s seen
  pub accepted : ControlIs s (accepted_with s seen)

-- the entity at i is a camera terminal or a processing unit, has the ID, and its control size stands at this place
pub record Mapped (seen : List Entity) (id i place : ℕ) : Type 0 where
  pub inside : i < length seen
  pub named : (entity_at seen i).id ≡ id
  pub has : HasControls (entity_at seen i) place

-- document 02: the control size is at most 32
abbrev pub controls_most : ℕ
controls_most = 32

-- control i of the n that stand from o on; 0 behind them
unfoldable pub control_byte : List ℕ → ℕ → ℕ → ℕ → ℕ
control_byte s o n i = if_else (leb n i) 0 (get_or s (o + i) 0)

-- the first k of them
unfoldable pub first_controls : List ℕ → ℕ → ℕ → ℕ → List ℕ
first_controls s o n zero = []
first_controls s o n (suc k) = first_controls s o n k ++ (control_byte s o n k ∷ [])

abbrev pub control_bytes : List ℕ → ℕ → ℕ → List ℕ
control_bytes s o n = first_controls s o n controls_most

-- the control size at a place of the descriptor at o, and the controls behind it
abbrev pub controls_at : List ℕ → ℕ → ℕ → Map
controls_at s o place = record { verdict = accept; length = byte s o place; bytes = control_bytes s (o + place + 1) (byte s o place) }

-- refused: no controls
abbrev pub refused_map : ℕ → ℕ → Map
refused_map k o = record { verdict = refuse k o; length = 0; bytes = replicate controls_most 0 }

pub data MapIs (s : List ℕ) (id : ℕ) : Map → Type 0 where
  -- the block's own refusal
  own : (k o : ℕ) → ControlIs s (refused_by k o) → MapIs s id (refused_map k o)
  given : (seen : List Entity) → AcceptedWith s seen → (i place : ℕ) → Mapped seen id i place → MapIs s id (controls_at s (entity_at seen i).offset place)
  -- 16: no camera terminal or processing unit has the ID
  sixteen : (seen : List Entity) → AcceptedWith s seen → ((i place : ℕ) → Mapped seen id i place → ⊥) → MapIs s id (refused_map 16 0)

-- WHEN: 16, the block is accepted and no camera terminal or processing unit has the ID;
pub record Unmapped (s : List ℕ) (id : ℕ) : Type 0 where
  pub seen : List Entity
  pub with : AcceptedWith s seen
  pub none : (i place : ℕ) → Mapped seen id i place → ⊥

-- the control bytes, it is accepted and one has it: they are those of its descriptor
pub record MappedAt (s : List ℕ) (id : ℕ) (r : Map) : Type 0 where
  pub seen : List Entity
  pub with : AcceptedWith s seen
  pub entity : ℕ
  pub place : ℕ
  pub mapped : Mapped seen id entity place
  pub bytes : r ≡ controls_at s (entity_at seen entity).offset place
