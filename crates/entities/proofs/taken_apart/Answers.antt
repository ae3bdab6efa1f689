use Rattle.std.proofs.Common.{◌∙◌, ap, arith}
use lib.ListN.{set}
use Rattle.entities.specs.Table.{entities_most, entity_at}
use Rattle.entities.proofs.Finding.{taken_more, taken-all}
use Rattle.entities.proofs.taken_apart.Goals as goal

pub loop-i-preserved : goal.loop-i-preserved
loop-i-preserved c =
    let l = c.args.entities.now in
    let i = c.loop-i.i in
    c.with_place-next.ensures ∙ (ap (λ a. set a i (entity_at l i)) c.loop-i.invariant ∙ taken_more entities_most l i (omega arith))

pub returns : goal.returns
returns c = c.loop-i.invariant ∙ taken-all entities_most c.args.entities.now c.loop-i.i (omega arith)
