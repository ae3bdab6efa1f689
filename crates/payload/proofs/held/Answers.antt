use borrow.Author.Rules.{rules}
use Rattle.rules.specs.IfElse.{if_elses}
use Rattle.payload.proofs.held.Goals as goal

pub returns-then-there : goal.returns-then-there
returns-then-there c = (search if_elses depth 8, search rules)

pub returns-else-there : goal.returns-else-there
returns-else-there c = (search if_elses depth 8, search rules)
