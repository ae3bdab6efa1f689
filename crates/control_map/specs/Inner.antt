-- What the contracts of the helpers cite, and a reader need not believe: the place of an entity's control size, computed.
use Rattle.std.specs.Prelude.{ℕ, List, eqb, None, Option, Some}
use Rattle.rules.specs.IfElse.{if_else}
use Rattle.entities.specs.declared.Entity.{Entity}
use Rattle.control_rules.specs.Descriptors.{Kind, header, input, output, selector, processing, extension, encoding, unknown, kind_of, camera}
use Rattle.control_map.specs.Answer.{controls_at, refused_map}
use Rattle.control_map.specs.declared.Map.{Map}

abbrev pub camera_place : ℕ → Option ℕ
camera_place t = if_else (eqb t camera) (Some 14) None

unfoldable pub place_by : Kind → ℕ → Option ℕ
place_by header t = None
place_by input t = camera_place t
place_by output t = None
place_by selector t = None
place_by processing t = Some 7
place_by extension t = None
place_by encoding t = None
place_by unknown t = None

abbrev pub place_of : Entity → Option ℕ
place_of e = place_by (kind_of e.kind) e.terminal

abbrev pub map_by : List ℕ → Entity → Option ℕ → Map
map_by s e (Some n) = controls_at s e.offset n
map_by s e None = refused_map 16 0
