use Rattle.host_camera.proofs.Telling.{told_under, refused-under}
use Rattle.host_camera.proofs.tell_under.Goals as goal

pub returns-in-Err : goal.returns-in-Err
returns-in-Err c = search refused-under

pub returns-in-Ok : goal.returns-in-Ok
returns-in-Ok c = search told_under
