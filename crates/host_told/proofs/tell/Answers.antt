use Rattle.host_told.proofs.Telling.{verdict-by}
use Rattle.host_told.proofs.tell.Goals as goal

pub returns : goal.returns
returns c = search verdict-by
