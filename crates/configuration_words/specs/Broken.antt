-- When a configuration is accepted, and which rule is the first that it breaks, at which place. `s` is the configuration.
use Rattle.std.specs.Prelude.{ℕ, ◌+◌, ◌<◌, ◌≡◌, List}
use Rattle.entities.specs.declared.Entity.{Entity}
use Rattle.entities.specs.declared.Table.{Table}
use Rattle.control.specs.Answer.{table_of}
use Rattle.control.specs.Broken as control
use Rattle.streaming.specs.Answer.{Seen}
use Rattle.streaming.specs.Broken as streaming
use Rattle.configuration_rules.specs.Descriptors.{number_at}
use Rattle.configuration_rules.specs.Words.{StreamingFirst}
use Rattle.configuration_layout.specs.Words.{Starts}
use Rattle.configuration_layout.specs.Broken.{Laid, FirstMislaid}
use Rattle.configuration.specs.Answer.{entry_count, entry_at}
use Rattle.configuration_words.specs.Block.{start_of, BlockIs}

-- a streaming interface is listed by its descriptor of setting 0, which stands at o
pub record ListedAt (s : List ℕ) (o : ℕ) : Type 0 where
  pub starts : Starts s o
  pub streaming : StreamingFirst s o

-- 73: a listed interface has this number
pub record Named (s : List ℕ) (x : ℕ) : Type 0 where
  pub place : ℕ
  pub listed : ListedAt s place
  pub number : number_at s place ≡ x

-- every entry of the control block b has its interface
abbrev pub AllNamed : List ℕ → List ℕ → Type 0
AllNamed s b = (j : ℕ) → j < entry_count b → Named s (entry_at b j)

-- 70, 71, 72 and 75 are kept, the control interface stands at c, its block is b, breaks no rule and has these entities
pub record ControlRight (s : List ℕ) (c : ℕ) (b : List ℕ) (l : List Entity) : Type 0 where
  pub laid : Laid s c
  pub block : BlockIs s c b
  pub sound : control.Sound b
  pub entities : control.Entities b l

-- the streaming block behind the descriptor at o, read against the entity table t, breaks no rule
pub record StreamRight (s : List ℕ) (t : Table) (o : ℕ) : Type 0 where
  pub bytes : List ℕ
  pub block : BlockIs s o bytes
  pub seen : Seen
  pub sound : streaming.Sound t bytes seen

-- NO RULE IS BROKEN. The streaming blocks are read against the control block's entity table
pub record Sound (s : List ℕ) : Type 0 where
  pub place : ℕ
  pub block : List ℕ
  pub entities : List Entity
  pub control : ControlRight s place block entities
  pub named : AllNamed s block
  pub blocks : (o : ℕ) → ListedAt s o → StreamRight s (table_of block entities) o

-- THE FIRST BROKEN RULE: 70, 71, 72, 75, the control block's own, 73, the streaming blocks' own in order of appearance. A block's own is given where the block starts,
-- plus the offset that it has in the block
pub data FirstBroken (s : List ℕ) : ℕ → ℕ → Type 0 where
  by_layout : (k o : ℕ) → FirstMislaid s k o → FirstBroken s k o
  by-control : (c : ℕ) (b : List ℕ) → Laid s c → BlockIs s c b → (k x : ℕ) → control.FirstBroken b k x → FirstBroken s k (start_of s c + x)
  by-73 : (c : ℕ) (b : List ℕ) (l : List Entity) → ControlRight s c b l → (j : ℕ) → j < entry_count b → (Named s (entry_at b j) → ⊥) → FirstBroken s 73 (start_of s c)
  by-streaming :
      (c : ℕ) (b : List ℕ) (l : List Entity) → ControlRight s c b l → AllNamed s b →
      (o : ℕ) → ListedAt s o → ((p : ℕ) → ListedAt s p → p < o → StreamRight s (table_of b l) p) →
      (e : List ℕ) → BlockIs s o e → (k x : ℕ) → streaming.FirstBroken (table_of b l) e k x → FirstBroken s k (start_of s o + x)
