-- Each promise leaves one answer: it says which.
use Prim.Native.Nat.{ℕ}
use mathlib.Core.Path.{◌≡◌, sym, ◌∙◌}
use mathlib.Core.List.{List}
use Rattle.configuration_rules.specs.declared.Sought.{Sought}
use Rattle.interfaces.specs.Inner.{next_of, block_at, streams_of, place_of, too_many}
use Rattle.interfaces.specs.Limits.{no_stream}
use Rattle.interfaces.specs.declared.Block.{Block}
use Rattle.interfaces.specs.declared.Stream.{Stream}
use Rattle.interfaces.specs.declared.Streams.{Streams}

pub next-unique : (w : Sought) (s : List ℕ) (o x y : ℕ) → x ≡ next_of w s o → y ≡ next_of w s o → x ≡ y
next-unique w s o x y p q = p ∙ sym q

pub block-at-unique : (s : List ℕ) (o : ℕ) (x y : Block) → x ≡ block_at s o → y ≡ block_at s o → x ≡ y
block-at-unique s o x y p q = p ∙ sym q

pub no-stream-unique : (x y : Stream) → x ≡ no_stream → y ≡ no_stream → x ≡ y
no-stream-unique x y p q = p ∙ sym q

pub listed-unique : (s : List ℕ) (x y : Streams) → x ≡ streams_of s → y ≡ streams_of s → x ≡ y
listed-unique s x y p q = p ∙ sym q

pub place-of-unique : (l : List Stream) (n i x y : ℕ) → x ≡ place_of l n i → y ≡ place_of l n i → x ≡ y
place-of-unique l n i x y p q = p ∙ sym q

pub too-many-unique : (s : List ℕ) (x y : ℕ) → x ≡ too_many s → y ≡ too_many s → x ≡ y
too-many-unique s x y p q = p ∙ sym q
