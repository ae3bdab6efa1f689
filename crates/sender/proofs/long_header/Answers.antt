use Rattle.sender.proofs.Writing.{long-is}
use Rattle.sender.proofs.long_header.Goals as goal

pub returns : goal.returns
returns c = long-is c.args.fid c.args.eof c.args.ticks _ _ _ _ _ _ c.weight.ensures.0 c.weight-2.ensures.0
    c.byte.ensures c.byte-2.ensures c.byte-3.ensures c.byte-4.ensures
