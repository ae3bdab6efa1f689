-- What the contracts of the helpers cite, and a reader need not believe: the tests, computed.
use Rattle.rules.specs.Verdicts.{Verdict}
use Rattle.std.specs.Prelude.{ℕ, ◌/◌, ◌%◌, ◌^◌, Bool, false, get_or, eqb, None, Option, Some, Err, Ok}
use Rattle.entities.specs.Table.{processing_unit, entity_at, found_in}
use Rattle.entities.specs.declared.Table.{Table}
use Rattle.control_map.specs.declared.Map.{Map}
use Rattle.camera_settings.specs.Numbers.{bit_of}
use Rattle.camera_settings.specs.declared.Setting.{Setting}
use Rattle.camera_settings.specs.declared.Request.{Request}
use Rattle.packets.specs.declared.Reading.{Reading}
use Rattle.packets.specs.declared.Reading.TheVariants.{Asks, Refused}

abbrev pub asked_by : Verdict → ℕ → Setting → Request → Reading
asked_by (Ok _) unit c q = Asks unit c q
asked_by (Err r) unit c q = Refused 95 0

abbrev pub unit_by : Table → Option ℕ → Bool
unit_by t None = false
unit_by t (Some i) = eqb (entity_at t.entities i).kind processing_unit

unfoldable pub is_unit : Table → ℕ → Bool
is_unit t id = unit_by t (found_in t id)

unfoldable pub in_map : Map → Setting → Bool
in_map m c = eqb (get_or m.bytes 0 0 / 2 ^ bit_of c % 2) 1
