use Rattle.host_sender.proofs.Steps.{opened}
use Rattle.host_sender.proofs.palkodhen_send_open.Goals as goal

pub returns : goal.returns
returns c = opened _ c.new.ensures _ c.put.ensures
