use Rattle.name_tables.proofs.Names.{start, passes, runs-out, begins}
use Rattle.name_tables.proofs.begin.Goals as goal

pub loop-i-init : goal.loop-i-init
loop-i-init c = search start

pub returns-then-to-names : goal.returns-then-to-names
returns-then-to-names c = search runs-out

pub loop-i-preserved : goal.loop-i-preserved
loop-i-preserved c = search passes

pub returns : goal.returns
returns c = search begins
