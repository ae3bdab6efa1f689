use Prim.Native.Nat.{ℕ}
use mathlib.Core.Path.{ap}
use lib.Bits.{bit_or}
use Rattle.bits.specs.Bits.{width, with_bit}
use Rattle.bits.proofs.Bits.{shl_one}
use Rattle.bits.proofs.with.Goals as goal

pub returns : goal.returns
unfolding with_bit
returns c = ap (λ (y : ℕ). bit_or c.args.x y) (shl_one width c.args.j c.requires)
