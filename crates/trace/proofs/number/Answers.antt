use Rattle.trace.proofs.Branches.{number-closed, number-open}
use Rattle.trace.proofs.number.Goals as goal

pub returns-then-rest : goal.returns-then-rest
returns-then-rest c = number-closed c.args.rest c.if-rest.true

pub returns : goal.returns
returns c = number-open c.args.rest c.if-rest.false
