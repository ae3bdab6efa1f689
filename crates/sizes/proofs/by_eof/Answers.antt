use mathlib.Core.Path.{ap}
use Prim.Native.Nat.{ℕ, ◌/◌, ◌^◌}
use lib.Dec.{eqb}
use lib.Bits.{and_mask}
use Rattle.sizes.specs.Framing.{by_eof}
use Rattle.sizes.proofs.by_eof.Goals as goal

pub returns : goal.returns
unfolding by_eof
returns c = ap (λ (k : ℕ). eqb k 1) (and_mask (c.args.o.framing / 2 ^ 1) 1)
