-- The entity table: what an unused place holds, and which place an ID names.
use Rattle.std.specs.Prelude.{ℕ, suc, ◌≡◌, List, [], ◌∷◌, length, take, get_or, replicate, eqb, None, Option, Some}
use Rattle.rules.specs.IfElse.{if_else}
use Rattle.rules.specs.First.{First}
use Rattle.entities.specs.declared.Entity.{Entity}
use Rattle.entities.specs.declared.Table.{Table}
use Rattle.entities.specs.declared.Revision.TheVariants.{R15}

-- ours: the most entities of a block, and the places of its table
abbrev pub entities_most : ℕ
entities_most = 32

-- the kinds that the rules name, by their subtype number
abbrev pub input_terminal : ℕ
input_terminal = 2

abbrev pub output_terminal : ℕ
output_terminal = 3

abbrev pub processing_unit : ℕ
processing_unit = 5

abbrev pub encoding_unit : ℕ
encoding_unit = 7

-- an unused place
abbrev pub no_entity : Entity
no_entity = record { id = 0; kind = 0; terminal = 0; offset = 0 }

-- the table of a refused block: all zero, and 1.5
abbrev pub no_table : Table
no_table = record { count = 0; entities = replicate entities_most no_entity; clock = 0; revision = R15 }

-- the entity at a place of a list
abbrev pub entity_at : List Entity → ℕ → Entity
entity_at l i = get_or l i no_entity

-- the used places
abbrev pub used : Table → List Entity
used t = take t.count t.entities

-- the place, counted from i, of the first entity that carries the ID
unfoldable pub find_from : ℕ → List Entity → ℕ → Option ℕ
find_from i [] id = None
find_from i (e ∷ l) id = if_else (eqb e.id id) (Some i) (find_from (suc i) l id)

-- the same without a search: the first place of the list whose entity carries the ID, or the length where none does
abbrev pub Finds : List Entity → ℕ → ℕ → Type 0
Finds l id r = First (λ i. (entity_at l i).id ≡ id) (length l) r

-- FINDING AN ID: the first used place whose entity carries it, where the first n places are used
abbrev pub found_among : List Entity → ℕ → ℕ → Option ℕ
found_among l n id = find_from 0 (take n l) id

abbrev pub found_in : Table → ℕ → Option ℕ
found_in t id = found_among t.entities t.count id
