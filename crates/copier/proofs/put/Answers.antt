use Rattle.copier.proofs.Laws.{laid}
use Rattle.copier.proofs.put.Goals as goal

pub returns : goal.returns
returns c = laid c.args.buf.now c.args.src.now _ c.args.at c.requires c.lay.ensures
