-- Samples of the framing byte: only D1 is looked at. Alone it is enough, and all the others are not.
use Prim.Native.Nat.{ℕ}
use mathlib.Core.Path.{◌≡◌, refl}
use mathlib.Core.Bool.{true, false}
use Rattle.sizes.specs.declared.Opening.{Opening}
use Rattle.sizes.specs.declared.HeaderKind.TheVariants.{Old}
use Rattle.sizes.specs.Framing.{by_eof}

abbrev framed : ℕ → Opening
framed byte = record { frame = 256; payload = 62; framing = byte; kind = Old }

pub d1-alone : by_eof (framed 0x02) ≡ true
unfolding by_eof
d1-alone = refl

pub all-but-d1 : by_eof (framed 0xFD) ≡ false
unfolding by_eof
all-but-d1 = refl
