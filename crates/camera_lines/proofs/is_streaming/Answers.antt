use Rattle.camera_lines.specs.Parts.{is_streaming}
use Rattle.camera_lines.proofs.is_streaming.Goals as goal

pub returns : goal.returns
unfolding is_streaming
returns c = rw (← c.byte_of-number.ensures) c.is_sought.ensures
