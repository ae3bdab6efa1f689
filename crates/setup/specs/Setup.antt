-- Document 02, Eleven: building the setup packets of an accepted block's processing units, and reading them back. `s` is the control block.
use Rattle.rules.specs.Verdicts.{Verdict, accept, refuse}
use Rattle.std.specs.Prelude.{ℕ, ◌*◌, ◌/◌, ◌%◌, ◌≤◌, ◌<◌, ◌^◌, ◌≡◌, List, length, get_or}
use Rattle.entities.specs.Table.{processing_unit, entity_at}
use Rattle.entities.specs.declared.Entity.{Entity}
use Rattle.control.specs.Answer.{refused_by, ControlIs}
use Rattle.control_map.specs.Answer.{AcceptedWith, MapIs}
use Rattle.control_map.specs.declared.Map.{Map}
use Rattle.camera_settings.specs.Numbers.{bit_of}
use Rattle.camera_settings.specs.declared.Setting.{Setting}
use Rattle.camera_settings.specs.declared.Request.{Request}
use Rattle.packets.specs.Packets.{packet_size, packet_of}
use Rattle.packets.specs.declared.Reading.{Reading}
use Rattle.packets.specs.declared.Reading.TheVariants as reading

-- the entity at i is a processing unit, and has the ID
pub record UnitAt (seen : List Entity) (id i : ℕ) : Type 0 where
  pub inside : i < length seen
  pub named : (entity_at seen i).id ≡ id
  pub kind : (entity_at seen i).kind ≡ processing_unit

-- the setting's bit lies within the map, and is 1
pub record InMap (m : Map) (c : Setting) : Type 0 where
  pub within : bit_of c < 8 * m.length
  pub set : get_or m.bytes (bit_of c / 8) 0 / 2 ^ (bit_of c % 8) % 2 ≡ 1

-- the block is accepted, the ID is a processing unit's, and the map reader's map of it has the setting
pub record Ready (s : List ℕ) (unit : ℕ) (c : Setting) : Type 0 where
  pub seen : List Entity
  pub accepted : AcceptedWith s seen
  pub place : ℕ
  pub is-unit : UnitAt seen unit place
  pub map : Map
  pub reads : MapIs s unit map
  pub has : InMap map c

-- the block's own refusal; 90: no processing unit of that ID; 91: the setting is not in its map
pub data ReadyIs (s : List ℕ) (unit : ℕ) (c : Setting) : Verdict → Type 0 where
  own : (k o : ℕ) → ControlIs s (refused_by k o) → ReadyIs s unit c (refuse k o)
  by-90 : (seen : List Entity) → AcceptedWith s seen → ((i : ℕ) → UnitAt seen unit i → ⊥) → ReadyIs s unit c (refuse 90 0)
  by-91 : (seen : List Entity) → AcceptedWith s seen → (i : ℕ) → UnitAt seen unit i → (m : Map) → MapIs s unit m → (InMap m c → ⊥) → ReadyIs s unit c (refuse 91 0)
  all_there : Ready s unit c → ReadyIs s unit c accept

-- BUILDING: these first; then 94, room under 8. What is left in the room is `leaves` of the verdict (packets/specs/Packets)
pub data BuildIs (s : List ℕ) (unit : ℕ) (c : Setting) (room : List ℕ) : Verdict → Type 0 where
  first : (k o : ℕ) → ReadyIs s unit c (refuse k o) → BuildIs s unit c room (refuse k o)
  by-94 : Ready s unit c → length room < packet_size → BuildIs s unit c room (refuse 94 0)
  built : Ready s unit c → packet_size ≤ length room → BuildIs s unit c room accept

-- for this block and interface the packet of the unit, setting and request is built, and it is these bytes
pub record Builds (s : List ℕ) (interface : ℕ) (bytes : List ℕ) (unit : ℕ) (c : Setting) (q : Request) : Type 0 where
  pub ready : Ready s unit c
  pub packet : bytes ≡ packet_of interface unit c q

-- READING BACK: the block's own refusal; the unit, setting and request that build the bytes; 95: none does
pub data ReadIs (s : List ℕ) (interface : ℕ) (bytes : List ℕ) : Reading → Type 0 where
  own : (k o : ℕ) → ControlIs s (refused_by k o) → ReadIs s interface bytes (reading.Refused k o)
  asks : (unit : ℕ) (c : Setting) (q : Request) → Builds s interface bytes unit c q → ReadIs s interface bytes (reading.Asks unit c q)
  by-95 : (seen : List Entity) → AcceptedWith s seen → ((unit : ℕ) (c : Setting) (q : Request) → Builds s interface bytes unit c q → ⊥)
      → ReadIs s interface bytes (reading.Refused 95 0)
