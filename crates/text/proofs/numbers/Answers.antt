use native.Mathlib.Omega.{arith}
use borrow.Author.Rules.{rules}
use Rattle.text.specs.Text.{number}
use Rattle.text.proofs.Texts.{none, turn, full}
use Rattle.text.proofs.numbers.Goals as goal

pub loop-n-init : goal.loop-n-init
loop-n-init c = (omega arith, none _ _ (omega arith))

pub loop-n-preserved : goal.loop-n-preserved
loop-n-preserved c = (grind arith, turn number 0 c.args.ns.now c.loop-n.n-index (omega arith) c.loop-n.invariant.1 (search rules))

pub returns : goal.returns
returns c = record { put = full number c.args.ns.now c.loop-n.n-index (omega arith) c.loop-n.invariant.1; upper_bound = omega arith }
