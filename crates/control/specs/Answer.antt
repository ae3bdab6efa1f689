-- What reading a control block answers. `s` is the block.
use Rattle.rules.specs.Verdicts.{accept, refuse}
use Rattle.std.specs.Prelude.{ℕ, ◌≡◌, List, [], ◌∷◌, ◌++◌, Bool, false, ◌||◌, length, eqb}
use Rattle.le.specs.Le.{byte, le32_at}
use Rattle.rules.specs.Numbered.{Given, NoneOf}
use Rattle.rules.specs.Walk.{Course, Outcome.done, Outcome.stop, walk}
use Rattle.rules.specs.Pad.{pad}
use Rattle.entities.specs.Table.{entities_most, no_entity, no_table}
use Rattle.entities.specs.declared.Entity.{Entity}
use Rattle.entities.specs.declared.Table.{Table}
use Rattle.control_rules.specs.Descriptors.{len_at, revision_of}
use Rattle.control_rules.specs.Rules.{head_rows, rows, entities_at}
use Rattle.sources.specs.Sources.{Judged}
use Rattle.control.specs.declared.Control.{Control}

-- an entity of the list has this ID
unfoldable pub used_before : List Entity → ℕ → Bool
used_before [] id = false
used_before (e ∷ l) id = eqb e.id id || used_before l id

-- the walk over the descriptors: rules 5 to 12 of each in turn, and the entities gathered in block order
abbrev pub course : List ℕ → Course (List Entity)
course s = record {
  size = length s;
  len = λ o. len_at s o;
  rows = λ seen o. rows s o (used_before seen (byte s o 3)) (length seen);
  start = [];
  gather = λ seen o. seen ++ entities_at s o;
}

-- refused: an all-zero table that says 1.5. Accepted: the entities in block order, unused places zero, the clock frequency and the revision
abbrev pub refused_by : ℕ → ℕ → Control
refused_by k o = record { verdict = refuse k o; table = no_table }

abbrev pub table_of : List ℕ → List Entity → Table
table_of s seen = record { count = length seen; entities = pad entities_most no_entity seen; clock = le32_at s 7; revision = revision_of s }

abbrev pub accepted_with : List ℕ → List Entity → Control
accepted_with s seen = record { verdict = accept; table = table_of s seen }

pub data ControlIs (s : List ℕ) : Control → Type 0 where
  -- 1 to 4: the first that the block breaks, at 0
  block : (k : ℕ) → Given (head_rows s) k → ControlIs s (refused_by k 0)
  -- 5 to 12: the first that a descriptor breaks, at the first descriptor that breaks one
  descriptor : (k o : ℕ) → NoneOf (head_rows s) → walk (course s) ≡ stop k o → ControlIs s (refused_by k o)
  -- 13 to 15: number by number, each at the first entity in block order that breaks it
  source : (seen : List Entity) (k o : ℕ) → NoneOf (head_rows s) → walk (course s) ≡ done seen → Judged s seen (refuse k o) → ControlIs s (refused_by k o)
  -- none is broken
  sound : (seen : List Entity) → NoneOf (head_rows s) → walk (course s) ≡ done seen → Judged s seen accept → ControlIs s (accepted_with s seen)
