use Rattle.trace.proofs.Branches.{answered-taken, answered-refused}
use Rattle.trace.proofs.answered.Goals as goal

pub returns-then-k-eq0 : goal.returns-then-k-eq0
returns-then-k-eq0 c = search answered-taken

pub returns : goal.returns
returns c = search answered-refused
