use Rattle.host_camera.proofs.Telling.{format-under}
use Rattle.host_camera.proofs.format_under.Goals as goal

pub returns-in-Ok : goal.returns-in-Ok
returns-in-Ok c = search format-under
