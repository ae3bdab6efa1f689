-- The limits of what is listed (75), and an unused place. `s` is the configuration, and `l` the places of its descriptors.
use Rattle.std.specs.Prelude.{ℕ, List, length}
use Rattle.configuration_rules.specs.Descriptors.{is_sought}
use Rattle.configuration_rules.specs.declared.Sought.TheVariants.{Listed, Setting}
use Rattle.interfaces.specs.Line.{those}
use Rattle.interfaces.specs.declared.Stream.{Stream}

-- the most streaming interfaces, and the most settings of each
abbrev pub interfaces_most : ℕ
interfaces_most = 8

abbrev pub settings_most : ℕ
settings_most = 32

-- an unused place: zero
abbrev pub no_stream : Stream
no_stream = record { interface = 0; endpoint = 0; offset = 0; length = 0 }

-- how many of the list are streaming descriptors of setting 0, and how many are settings of interface n
abbrev pub listed_among : List ℕ → List ℕ → ℕ
listed_among s l = length (those (is_sought Listed s) l)

abbrev pub settings_among : List ℕ → ℕ → List ℕ → ℕ
settings_among s n l = length (those (is_sought (Setting n) s) l)
