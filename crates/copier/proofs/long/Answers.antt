use Prim.Native.Nat.{◌+◌, ◌-◌, ◌%◌}
use lib.ListN.{length}
use native.Mathlib.Omega.{arith}
use Rattle.copier.proofs.Moves.{first, laid-less, laid_more, laid-here, laid_on, laid-all}
use borrow.Author.Rules.{rules}
use Rattle.copier.proofs.long.Goals as goal

pub loop-i-init : goal.loop-i-init
loop-i-init c = let s = c.args.src.now in
    let u = first c.args.part.now s _ 16 c.requires.1 (search rules) c.moved.ensures in
    (search rules, search rules, laid-here _ _ _ _ (laid-less _ _ _ _ u (16 - c.args.at % 16) (omega arith)))

pub loop-i-preserved : goal.loop-i-preserved
loop-i-preserved c = let l = c.loop-i in
    (search rules, search rules, laid_more _ _ _ _ l.invariant.2 l.invariant.1 _ l.i 64 (omega arith) (search rules) c.moved-in-loop-i.ensures)

pub returns : goal.returns
returns c = let l = c.loop-i in
    let d = c.args.part.now in
    let s = c.args.src.now in
    let u = first d s _ 16 c.requires.1 (search rules) c.moved.ensures in
    let v = laid_more _ _ _ _ l.invariant.2 l.invariant.1 _ (length s - 64) 64 (omega arith) (omega arith) c.moved-2.ensures in
    laid-all d s _ (length s - 64 + 64) (laid_on d s _ 16 u _ (length s - 64 + 64) v) (omega arith)
