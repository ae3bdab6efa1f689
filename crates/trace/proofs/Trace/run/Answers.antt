use Rattle.trace.proofs.Runs.{run-stays, run-follows}
use Rattle.trace.proofs.Trace.run.Goals as goal

pub returns-then-decided : goal.returns-then-decided
returns-then-decided c = search run-stays

pub returns : goal.returns
returns c = search run-follows
