use Rattle.picking.proofs.Choosing.{count-few, own-refused, then-picked}
use Rattle.picking.proofs.pick.Goals as goal

pub returns-in-Err : goal.returns-in-Err
returns-in-Err c = search own-refused

pub pick_among-requires : goal.pick_among-requires
pick_among-requires c = search count-few

pub returns : goal.returns
returns c = search then-picked
