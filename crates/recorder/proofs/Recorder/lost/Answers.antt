use Rattle.recorder.proofs.Together.{whole-reported}
use Rattle.recorder.proofs.Recorder.lost.Goals as goal

pub returns : goal.returns
returns c = search whole-reported
