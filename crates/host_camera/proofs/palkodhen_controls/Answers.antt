use Rattle.host_camera.proofs.Telling.{controls-by, controls-left}
use Rattle.host_camera.proofs.palkodhen_controls.Goals as goal

pub returns : goal.returns
returns c = search (controls-by, controls-left)
