use mathlib.Core.Path.{ap}
use Prim.Native.Nat.{ℕ, ◌/◌, ◌^◌}
use lib.Dec.{eqb}
use lib.Bits.{and_mask}
use Rattle.session_rules.specs.Transfer.{flag_of}
use Rattle.payload.proofs.flag.Goals as goal

pub returns : goal.returns
unfolding flag_of
returns c = ap (λ (k : ℕ). eqb k 1) (and_mask (c.args.flags / 2 ^ c.args.n) 1)
