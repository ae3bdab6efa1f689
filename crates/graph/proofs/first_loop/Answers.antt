use Prim.Native.Nat.{ℕ}
use mathlib.Core.Path.{sym, ◌∙◌}
use native.Mathlib.Omega.{arith}
use borrow.Author.Count.{below_more}
use borrow.Author.Tests.{eqb-true, eqb-false}
use lib.ListN.{get_or}
use Rattle.bits.specs.Bits.{bit_of}
use Rattle.graph.specs.Rows.{Edge}
use Rattle.graph.proofs.first_loop.Goals as goal

pub loop-i-init : goal.loop-i-init
loop-i-init c = λ a l. absurd (omega arith)

pub returns-then-bit : goal.returns-then-bit
returns-then-bit c = let l = c.loop-i in
    let closed = c.close.ensures.by_index in
    let m = c.close.new.m in
    record {
      within = omega arith;
      before = λ a h ch. l.invariant a h ((closed a a).1 ch);
      here = λ h. (closed l.i l.i).0 (eqb-true (bit_of (get_or m l.i 0) l.i) 1 (sym c.bit.ensures ∙ c.if-bit.true));
    }

pub loop-i-preserved : goal.loop-i-preserved
loop-i-preserved c = let l = c.loop-i in
    let m = c.close.new.m in
    below_more (λ (a : ℕ). Edge m a a → ⊥) l.i l.invariant (eqb-false (bit_of (get_or m l.i 0) l.i) 1 (sym c.bit.ensures ∙ c.if-bit.false))

pub returns : goal.returns
returns c = let l = c.loop-i in
    let closed = c.close.ensures.by_index in
    record {
      within = omega arith;
      before = λ a h ch. l.invariant a (omega arith) ((closed a a).1 ch);
      here = λ h. absurd (omega arith);
    }
