use Rattle.sender.proofs.Writing.{short-is}
use Rattle.sender.proofs.short_header.Goals as goal

pub returns : goal.returns
returns c = short-is c.args.fid c.args.eof _ _ c.weight.ensures.0 c.weight-2.ensures.0
