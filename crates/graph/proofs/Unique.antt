-- The promise of `first_loop` leaves one answer.
use Prim.Native.Nat.{ℕ}
use mathlib.Core.Path.{◌≡◌}
use mathlib.Core.List.{List}
use Rattle.rules.specs.Chain.{OnLoop, FirstLoop}
use Rattle.rules.proofs.Firsts.{first-unique}
use Rattle.graph.specs.Rows.{places, Edge}

pub first-loop-unique : (rows : List ℕ) (r s : ℕ) → FirstLoop (Edge rows) places r → FirstLoop (Edge rows) places s → r ≡ s
first-loop-unique rows r s f g = first-unique (OnLoop (Edge rows)) places r s f g
