use Rattle.host_camera.proofs.Telling.{frame-by}
use Rattle.host_camera.proofs.tell_frame.Goals as goal

pub returns : goal.returns
returns c = search frame-by
