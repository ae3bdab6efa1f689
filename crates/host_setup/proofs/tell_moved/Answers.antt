use Rattle.host_setup.proofs.Found.{moved_by}
use Rattle.host_setup.proofs.tell_moved.Goals as goal

pub returns : goal.returns
returns c = search moved_by
