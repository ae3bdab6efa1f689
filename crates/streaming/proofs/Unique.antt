-- One answer of each public function: any two that its promise allows are equal.
use Prim.Native.Nat.{ℕ}
use mathlib.Core.Path.{◌≡◌, sym, ◌∙◌}
use mathlib.Core.List.{List}
use Rattle.entities.specs.declared.Table.{Table}
use Rattle.streaming.specs.Inner.{streaming_of}
use Rattle.streaming.specs.declared.Streaming.{Streaming}

pub read-unique : (t : Table) (s : List ℕ) (x y : Streaming) → x ≡ streaming_of t s → y ≡ streaming_of t s → x ≡ y
read-unique t s x y p q = p ∙ sym q
