use Rattle.trace.proofs.Branches.{finish-good, finish-bad, finish-refused}
use Rattle.trace.proofs.Trace.finish.Goals as goal

pub returns-in-Good : goal.returns-in-Good
returns-in-Good c = search finish-good

pub returns-in-Bad : goal.returns-in-Bad
returns-in-Bad c = search finish-bad

pub returns-in-Refused : goal.returns-in-Refused
returns-in-Refused c = search finish-refused
