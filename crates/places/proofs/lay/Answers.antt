use Rattle.places.proofs.Laying.{none-laid, one-laid, all_laid}
use Rattle.places.proofs.lay.Goals as goal

pub loop-k-init : goal.loop-k-init
loop-k-init c = search none-laid

pub loop-k-preserved : goal.loop-k-preserved
loop-k-preserved c = search one-laid

pub returns : goal.returns
returns c = search all_laid
