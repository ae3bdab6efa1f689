use Rattle.entities.specs.Table.{entities_most}
use Rattle.entities.proofs.Finding.{lent_found}
use Rattle.entities.proofs.find_lent.Goals as goal

pub returns : goal.returns
returns c = let e = lent_found entities_most c.args.entities.now c.args.count c.args.id in cc
