use mathlib.Core.Path.{sym, ◌∙◌}
use native.Mathlib.Omega.{arith}
use lib.ListN.{get_or}
use borrow.Author.Tests.{eqb-true, eqb-false}
use Rattle.bits.specs.Bits.{bit_of}
use Rattle.graph.proofs.Chains.{rounding, taken_in, stays, rounded}
use Rattle.graph.proofs.round.Goals as goal
use Rattle.graph.proofs.round.Goals.{then-bit, else-bit}

pub loop-i-init : goal.loop-i-init
loop-i-init c = rounding _ _ c.requires.1

pub loop-i-preserved : goal.loop-i-preserved
loop-i-preserved c = let k = c.args.k in
    let l = c.loop-i in
    let x = get_or l.m l.i 0 in
    elim c.if-bit.branch [
      | then-bit w ↦ rw w.m-is (taken_in _ k l.m l.i l.invariant (omega arith) (eqb-true (bit_of x k) 1 (sym c.bit.ensures ∙ w.if-bit.true)))
      | else-bit w ↦ rw w.m-is (stays _ k l.m l.i l.invariant (omega arith) (eqb-false (bit_of x k) 1 (sym c.bit.ensures ∙ w.if-bit.false)))
    ]

pub returns : goal.returns
returns c = record { m_len = c.loop-i.invariant.size; by_index = rounded _ _ _ _ c.requires.1 c.loop-i.invariant (omega arith) }
