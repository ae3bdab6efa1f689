use Rattle.host_sender.proofs.Steps.{stamp-none, stamp-some}
use Rattle.host_sender.proofs.stamp_in.Goals as goal

pub returns-then-stamped-eq0 : goal.returns-then-stamped-eq0
returns-then-stamped-eq0 c = search stamp-none

pub returns : goal.returns
returns c = search stamp-some
