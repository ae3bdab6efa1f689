use Rattle.recorder.proofs.Together.{whole-taken}
use Rattle.recorder.proofs.Recorder.count.Goals as goal

pub returns : goal.returns
returns c = search whole-taken
