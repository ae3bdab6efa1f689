use Rattle.recorder.proofs.Together.{whole-closed}
use Rattle.recorder.proofs.Recorder.close.Goals as goal

pub returns : goal.returns
returns c = search whole-closed
