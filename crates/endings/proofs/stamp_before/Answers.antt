use Rattle.endings.proofs.Tell.{stamp-on, stamp-off}
use Rattle.endings.proofs.stamp_before.Goals as goal

pub returns-then-r-fid : goal.returns-then-r-fid
returns-then-r-fid c = search stamp-on

pub returns-else-r-fid : goal.returns-else-r-fid
returns-else-r-fid c = search stamp-off
