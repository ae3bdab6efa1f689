-- Document 01, rules 13 to 15: the sources of the entities of a block, and what they name. `s` is the block, and `l` its entities in block order.
use Rattle.rules.specs.Verdicts.{Verdict, accept, refuse}
use Rattle.std.specs.Prelude.{ℕ, ◌+◌, ◌<◌, ◌≡◌, List, length, get_or, None, Some}
use Rattle.rules.specs.First.{NoneBelow, First}
use Rattle.rules.specs.Chain.{OnLoop}
use Rattle.entities.specs.Table.{output_terminal, entity_at, find_from}
use Rattle.entities.specs.declared.Entity.{Entity}
use Rattle.control_rules.specs.Descriptors.{kind_of, source_count, source_place}

-- how many sources the entity has, and its source q, counted from 0
abbrev pub sources_of : List ℕ → Entity → ℕ
sources_of s e = source_count (kind_of e.kind) s e.offset

abbrev pub source_at : List ℕ → Entity → ℕ → ℕ
source_at s e q = get_or s (e.offset + source_place (kind_of e.kind) + q) 0

-- one of the first n
abbrev pub SomeBelow : ℕ → (ℕ → Type 0) → Type 0
SomeBelow n P = (q : ℕ) × (q < n) × P q

-- a source of e names nothing
abbrev pub Lost : List ℕ → List Entity → Entity → Type 0
Lost s l e = SomeBelow (sources_of s e) (λ q. find_from 0 l (source_at s e q) ≡ None)

-- a source of e names the entity at j
abbrev pub Names : List ℕ → List Entity → Entity → ℕ → Type 0
Names s l e j = SomeBelow (sources_of s e) (λ q. find_from 0 l (source_at s e q) ≡ Some j)

-- a source of e names an output terminal
abbrev pub ToOutput : List ℕ → List Entity → Entity → Type 0
ToOutput s l e = SomeBelow (sources_of s e) (λ q. (j : ℕ) × (find_from 0 l (source_at s e q) ≡ Some j) × ((entity_at l j).kind ≡ output_terminal))

-- the entity at i has a source that names the one at j
abbrev pub Feeds : List ℕ → List Entity → ℕ → ℕ → Type 0
Feeds s l i j = (i < length l) × Names s l (entity_at l i) j

-- 13: a source names nothing. 14: names an output terminal. 15: a chain of sources returns to its start
abbrev pub Breaks13 : List ℕ → List Entity → ℕ → Type 0
Breaks13 s l i = Lost s l (entity_at l i)

abbrev pub Breaks14 : List ℕ → List Entity → ℕ → Type 0
Breaks14 s l i = ToOutput s l (entity_at l i)

abbrev pub Breaks15 : List ℕ → List Entity → ℕ → Type 0
Breaks15 s l i = OnLoop (Feeds s l) i

-- no entity breaks the rule
abbrev pub NoEntity : List Entity → (ℕ → Type 0) → Type 0
NoEntity l P = NoneBelow (length l) P

-- number by number, each at the first entity in block order that breaks it
pub data Judged (s : List ℕ) (l : List Entity) : Verdict → Type 0 where
  thirteen : (i : ℕ) → i < length l → First (Breaks13 s l) (length l) i → Judged s l (refuse 13 (entity_at l i).offset)
  fourteen : (i : ℕ) → i < length l → NoEntity l (Breaks13 s l) → First (Breaks14 s l) (length l) i → Judged s l (refuse 14 (entity_at l i).offset)
  fifteen : (i : ℕ) → i < length l → NoEntity l (Breaks13 s l) → NoEntity l (Breaks14 s l) → First (Breaks15 s l) (length l) i → Judged s l (refuse 15 (entity_at l i).offset)
  fine : NoEntity l (Breaks13 s l) → NoEntity l (Breaks14 s l) → NoEntity l (Breaks15 s l) → Judged s l accept
