use mathlib.Core.Path.{refl}
use Rattle.recorder.proofs.Together.{whole-taken}
use Rattle.recorder.proofs.Recorder.take.Goals as goal

pub returns : goal.returns
returns c =
    let x = c.take_for-taken in
    record { value = search whole-taken; buffer_after = x.ensures.written refl }
