-- What the inner contracts cite. Nothing here needs to be believed.
use Rattle.std.specs.Prelude.{T, leb, length, Bool, true, ◌&&◌, List, ℕ, zero, suc}
use Rattle.name_tables.specs.Tables.{name_at}

-- each of the first n names from place i on has at most 40 bytes
abbrev pub are_short : List ℕ → ℕ → ℕ → Bool
are_short t zero i = true
are_short t (suc n) i = leb (length (name_at i t)) 40 && are_short t n (suc i)

pub record Short (t : List ℕ) : Type 0 where
  pub each : T (are_short t 24 0)
