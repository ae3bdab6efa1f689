-- Document 02, Four: WHAT AN ACCEPTED BLOCK SHOWS IS WHAT ITS OWN REVISION SAYS, once over the three revisions. `s` is the control block, `v` its revision.
use Rattle.rules.specs.Verdicts.{accept, refuse}
use Rattle.std.specs.Prelude.{ℕ, ◌+◌, ◌≤◌, ◌<◌, ◌≡◌, List, ◌++◌, true, length, take, drop}
use Rattle.le.specs.Le.{byte, le16_at}
use Rattle.entities.specs.Revisions.{says_of}
use Rattle.entities.specs.Table.{input_terminal, processing_unit, encoding_unit, entity_at}
use Rattle.entities.specs.declared.Entity.{Entity}
use Rattle.entities.specs.declared.Table.{Table}
use Rattle.entities.specs.declared.Revision.{Revision}
use Rattle.entities.specs.declared.Revision.TheVariants.{R10, R11, R15}
use Rattle.control_rules.specs.Descriptors.{len_at, camera, kind_in, shape, is_entity}
use Rattle.control_rules.specs.Rules.{entity_of}
use Rattle.control.specs.declared.Control.{Control}
use Rattle.control_map.specs.Answer.{MapIs, controls_at}
use Rattle.control_map.specs.declared.Map.{Map}
use Rattle.probe.specs.Fields.{fields_of, bytes_of, no_fields, kept_in, probe_of, room_verdict, written}
use Rattle.probe.specs.declared.Probe.{Probe}
use Rattle.probe_check.specs.Answer.{check_of}

-- bcdUVC
abbrev pub bcd_of : Revision → ℕ
bcd_of R10 = 0x0100
bcd_of R11 = 0x0110
bcd_of R15 = 0x0150

-- the descriptor at o has length base + n, n the control size at k, as large as the revision allows
pub record SizedBy (v : Revision) (s : List ℕ) (o base k : ℕ) : Type 0 where
  pub long : len_at s o ≡ base + byte s o k
  pub least : (says_of v).least ≤ byte s o k
  pub most : byte s o k ≤ (says_of v).most

-- an entity of the table: it is read from its descriptor, which has that revision's kind and that revision's shape
pub record EntityBy (v : Revision) (s : List ℕ) (e : Entity) : Type 0 where
  pub read : e ≡ entity_of s e.offset
  pub kind : is_entity (kind_in v s e.offset) ≡ true
  pub shaped : shape v (kind_in v s e.offset) s e.offset ≡ true
  -- there are encoding units only where the revision has them
  pub encoding : e.kind ≡ encoding_unit → (says_of v).encoding ≡ true
  pub camera-terminal : e.kind ≡ input_terminal → e.terminal ≡ camera → SizedBy v s e.offset (says_of v).camera 14
  pub processing-unit : e.kind ≡ processing_unit → SizedBy v s e.offset (says_of v).unit 7

-- the entity e stands in the table t, and has this ID
pub record InTable (t : Table) (id : ℕ) (e : Entity) : Type 0 where
  pub place : ℕ
  pub used : place < t.count
  pub same : entity_at t.entities place ≡ e
  pub named : e.id ≡ id

-- a map that is given of an ID: the control size, and the bytes behind it, of the entity of the table that has the ID, at its offset; its descriptor is one of that
-- revision
pub data MapBy (v : Revision) (s : List ℕ) (t : Table) (id : ℕ) : Map → Type 0 where
  of-camera : (e : Entity) → InTable t id e → e.kind ≡ input_terminal → e.terminal ≡ camera → SizedBy v s e.offset (says_of v).camera 14 → MapBy v s t id (controls_at s e.offset 14)
  of-unit : (e : Entity) → InTable t id e → e.kind ≡ processing_unit → SizedBy v s e.offset (says_of v).unit 7 → MapBy v s t id (controls_at s e.offset 7)

-- what an accepted block, read as c, shows
pub record Shows (v : Revision) (s : List ℕ) (c : Control) : Type 0 where
  -- the revision is the one in bytes 3 and 4, and the table carries it
  pub bytes : le16_at s 3 ≡ bcd_of v
  pub table : c.table.revision ≡ v
  pub entities : (i : ℕ) → i < c.table.count → EntityBy v s (entity_at c.table.entities i)
  pub map : (id : ℕ) (m : Map) → MapIs s id m → m.verdict ≡ accept → MapBy v s c.table id m
  -- a probe block is read by that revision, as the table carries it: its size, 26, 34 or 48, and the fields that it has, the others 0
  pub probe-read : (p : List ℕ) → length p ≡ (says_of v).probe → probe_of c.table.revision p ≡ record { verdict = accept; probe = kept_in v (fields_of p) }
  pub probe-unread : (p : List ℕ) → (length p ≡ (says_of v).probe → ⊥) → probe_of c.table.revision p ≡ record { verdict = refuse 41 0; probe = no_fields }
  -- and written: so many bytes and no other, none where there is room for fewer
  pub probe-written : (p : Probe) (room : List ℕ) → (says_of v).probe ≤ length room
      → (room_verdict c.table.revision room ≡ accept) × (written c.table.revision p room ≡ take (says_of v).probe (bytes_of p) ++ drop (says_of v).probe room)
  pub probe-unwritten : (p : Probe) (room : List ℕ) → length room < (says_of v).probe → (room_verdict c.table.revision room ≡ refuse 41 0) × (written c.table.revision p room ≡ room)
  -- and checked
  pub probe-long : (b p : List ℕ) → check_of c.table b p ≡ accept → length p ≡ (says_of v).probe
  pub probe-41 : (b p : List ℕ) → (length p ≡ (says_of v).probe → ⊥) → check_of c.table b p ≡ refuse 41 0
