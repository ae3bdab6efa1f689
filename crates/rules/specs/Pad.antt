-- A list in a table of n places: the unused places hold z.
use Rattle.std.specs.Prelude.{ℕ, ◌-◌, List, ◌++◌, length, replicate}

abbrev pub pad : {A : Type 0} → ℕ → A → List A → List A
pad n z l = l ++ replicate (n - length l) z
