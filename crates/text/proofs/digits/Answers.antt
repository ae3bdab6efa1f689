use native.Mathlib.Omega.{arith}
use mathlib.Core.Path.{◌∙◌}
use Rattle.text.proofs.Decimals.{spelled, at-most-20}
use Rattle.text.proofs.digits.Goals as goal

pub put-requires : goal.put-requires
put-requires c = let n = c.args.n in
    omega (arith, at-most-20 n c.decimal-k.result (omega arith) c.decimal-k.ensures.len)

pub returns : goal.returns
returns c =
    let n = c.args.n in
    record { put = rw (c.decimal-k.ensures.digits ∙ spelled n c.decimal-k.result c.decimal-k.ensures.len) at c.put.ensures; upper_bound = omega (arith, at-most-20 n c.decimal-k.result (omega arith) c.decimal-k.ensures.len) }
