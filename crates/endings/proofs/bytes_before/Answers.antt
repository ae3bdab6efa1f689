use Rattle.endings.proofs.Tell.{bytes_on, bytes-off}
use Rattle.endings.proofs.bytes_before.Goals as goal

pub returns-then-r-fid : goal.returns-then-r-fid
returns-then-r-fid c = search bytes_on

pub returns-else-r-fid : goal.returns-else-r-fid
returns-else-r-fid c = search bytes-off
