-- THE OWNER'S THREE DEMANDS, sentence by sentence and in their order, over the definitions that the contracts cite. Proved in proofs/Proved.
-- What a session is held to stands in books/specs/Statement; here are the readers' sentences, and the whole. That each call ends, on any bytes, is what the checker admits a function for.
use Rattle.rules.specs.Verdicts.{accept, refuse}
use Rattle.std.specs.Prelude.{ℕ, ◌≤◌, ◌≡◌, List, ◌↔◌, length, drop}
use Rattle.entities.specs.declared.Entity.{Entity}
use Rattle.entities.specs.declared.Revision.{Revision}
use Rattle.entities.specs.declared.Table.{Table}
use Rattle.entities.specs.Table.{no_table}
use Rattle.control.specs.declared.Control.{Control}
use Rattle.control.specs.Answer.{ControlIs, table_of}
use Rattle.control.specs.Broken as control
use Rattle.control.specs.Listed as control-list
use Rattle.control_map.specs.declared.Map.{Map}
use Rattle.control_map.specs.Answer.{MapIs, refused_map, Unmapped, MappedAt}
use Rattle.revisions.specs.Own.{Shows}
use Rattle.streaming.specs.declared.Streaming.{Streaming}
use Rattle.streaming.specs.Answer.{Seen, accepted_with, refused_by}
use Rattle.streaming.specs.Inner.{streaming_of}
use Rattle.streaming.specs.Broken as streaming
use Rattle.streaming.specs.Listed as streaming-list
use Rattle.probe.specs.declared.Probe.{Probe}
use Rattle.probe.specs.Fields.{probe_size, fields_of, room_verdict, written, Held, AllBytes, WritesBack, ReadsBack}
use Rattle.probe_check.specs.Answer.{check_of}
use Rattle.probe_check.specs.Broken.{Yes, No}
use Rattle.configuration.specs.declared.Configuration.{Configuration}
use Rattle.configuration.specs.Inner.{ConfigurationIs}
use Rattle.configuration_words.specs.Broken as configuration
use Rattle.configuration_words.specs.Listed.{Lists-all}
use Rattle.books.specs.Statement.{NoInputStops, FramesAreWhole, NothingGoesMissing}

-- 1. NO INPUT STOPS IT.
pub record First : Type 0 where
  -- every opening, transfer, lost report and close of any session record, and after any calls
  pub sessions : NoInputStops
  -- a refused block leaves nothing behind: the tables are all zero
  pub no-entities : (s : List ℕ) (c : Control) → ControlIs s c → (k o : ℕ) → c.verdict ≡ refuse k o → c.table ≡ no_table
  pub no-formats : (t : Table) (s : List ℕ) (k o : ℕ) → streaming.FirstBroken t s k o → streaming_of t s ≡ refused_by k o
  -- "a refused call changes no lent byte": the room of a probe block; and behind the block's own bytes none ever changes
  pub room-kept : (v : Revision) (p : Probe) (room : List ℕ) (k o : ℕ) → room_verdict v room ≡ refuse k o → written v p room ≡ room
  pub past-kept : (v : Revision) (p : Probe) (room : List ℕ) → drop (probe_size v) (written v p room) ≡ drop (probe_size v) room

-- 2. IT READS THE CLASS as USB Video Class 1.5 and document 01 state it.
pub record Second : Type 0 where
  -- "A block is accepted exactly when it obeys every rule", and refused by the first broken rule in the table's order, at the first place that breaks it
  pub control-accepted : (s : List ℕ) (c : Control) → ControlIs s c → (c.verdict ≡ accept) ↔ control.Sound s
  pub control-refused : (s : List ℕ) (c : Control) → ControlIs s c → (k o : ℕ) → (c.verdict ≡ refuse k o) ↔ control.FirstBroken s k o
  pub streaming-accepted : (t : Table) (s : List ℕ) → ((streaming_of t s).verdict ≡ accept) ↔ ((a : Seen) × streaming.Sound t s a)
  pub streaming-refused : (t : Table) (s : List ℕ) (k o : ℕ) → ((streaming_of t s).verdict ≡ refuse k o) ↔ streaming.FirstBroken t s k o
  pub probe-yes : (t : Table) (s b : List ℕ) → (check_of t s b ≡ accept) ↔ Yes t s b
  pub probe-no : (t : Table) (s b : List ℕ) (k o : ℕ) → (check_of t s b ≡ refuse k o) ↔ No t s b k o
  pub configuration-accepted : (s : List ℕ) (r : Configuration) → ConfigurationIs s r → (r.verdict ≡ accept) ↔ configuration.Sound s
  pub configuration-refused : (s : List ℕ) (r : Configuration) → ConfigurationIs s r → (k o : ℕ) → (r.verdict ≡ refuse k o) ↔ configuration.FirstBroken s k o
  -- what an accepted block says: its entities, formats and frames and no others, by its own revision; a unit's control map
  pub control-lists : (s : List ℕ) (c : Control) → ControlIs s c → c.verdict ≡ accept → (l : List Entity) × control-list.Listed s l × (c.table ≡ table_of s l)
  pub control-shows : (s : List ℕ) (c : Control) → ControlIs s c → c.verdict ≡ accept → (v : Revision) × Shows v s c
  pub streaming-lists : (t : Table) (s : List ℕ) (x : Streaming) → x ≡ streaming_of t s → x.verdict ≡ accept → (a : Seen) × streaming-list.Listed t s a × (x ≡ accepted_with s a)
  pub configuration-lists : (s : List ℕ) (r : Configuration) → ConfigurationIs s r → r.verdict ≡ accept → Lists-all s r
  pub map-given : (s : List ℕ) (id : ℕ) (r : Map) → MapIs s id r → (r.verdict ≡ accept) ↔ MappedAt s id r
  pub map-16 : (s : List ℕ) (id : ℕ) (r : Map) → MapIs s id r → (r ≡ refused_map 16 0) ↔ Unmapped s id
  -- "a loop is refused exactly when there is one"
  pub loops : (s : List ℕ) (c : Control) → ControlIs s c → (o : ℕ) → (c.verdict ≡ refuse 15 o) ↔ control.Looped s o
  -- "parameter blocks go in and out byte for byte"
  pub writes-back : (v : Revision) (s : List ℕ) (p : Probe) → AllBytes s → p ≡ fields_of s → WritesBack v p s
  pub reads-back : (v : Revision) (p : Probe) (room new : List ℕ) → Held p → probe_size v ≤ length room → new ≡ written v p room → ReadsBack v p new
  -- "a frame handed out is exactly the payload bytes of one whole frame, in order"
  pub frames : FramesAreWhole

-- 3. NOTHING GOES MISSING FROM THE BOOKS.
pub record Demands : Type 0 where
  pub first : First
  pub second : Second
  pub third : NothingGoesMissing
