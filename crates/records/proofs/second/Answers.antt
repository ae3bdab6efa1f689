use Rattle.records.proofs.Branches.{second-long}
use Rattle.records.proofs.second.Goals as goal

pub returns-in-Long : goal.returns-in-Long
returns-in-Long c = search second-long
