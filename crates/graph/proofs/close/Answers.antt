use mathlib.Core.Path.{◌≡◌}
use native.Mathlib.Omega.{arith}
use Rattle.graph.specs.Rows.{places, Edge}
use Rattle.graph.proofs.Chains.{Via.straight, via-zero, via-chain, chain-via, edge-from, empty-adds-nothing, round-stands}
use Rattle.graph.proofs.close.Goals as goal
use Rattle.graph.proofs.close.Goals.{then-m-k-ne0, else-m-k-ne0}

pub loop-k-init : goal.loop-k-init
loop-k-init c = (c.requires, λ i j. (λ e. straight e, λ v. via-zero (Edge c.args.m.now) v))

pub loop-k-preserved : goal.loop-k-preserved
loop-k-preserved c = let m = c.args.m.now in
    let l = c.loop-k in
    elim c.if-m-k-ne0.branch [
      | then-m-k-ne0 w ↦ rw w.m-is (w.round.ensures.m_len, round-stands (Edge m) l.k l.m w.round.new.m l.invariant.1 w.round.ensures.by_index)
      | else-m-k-ne0 w ↦ rw w.m-is (l.invariant.0, round-stands (Edge m) l.k l.m l.m l.invariant.1 (empty-adds-nothing l.m l.k w.if-m-k-ne0.false))
    ]

pub returns : goal.returns
returns c =
    let m = c.args.m.now in
    let l = c.loop-k in
    let full : l.k ≡ places = omega arith in
    record {
      m_len = l.invariant.0;
      by_index = λ i j. (
        (λ e. via-chain (Edge m) ((l.invariant.1 i j).0 e)),
        (λ ch. (l.invariant.1 i j).1 (rw full (chain-via (Edge m) places (λ a b e. edge-from m a b e places c.requires) ch))),
      );
    }
