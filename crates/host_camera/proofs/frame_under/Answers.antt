use Rattle.host_camera.proofs.Telling.{frame-under}
use Rattle.host_camera.proofs.frame_under.Goals as goal

pub returns-in-Ok : goal.returns-in-Ok
returns-in-Ok c = search frame-under
