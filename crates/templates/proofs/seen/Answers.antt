use Rattle.rules.specs.IfElse.{if_elses}
use Rattle.templates.specs.Values.{shown}
use Rattle.templates.proofs.seen.Goals as goal

pub returns-then-x-lt33 : goal.returns-then-x-lt33
unfolding shown
returns-then-x-lt33 c = search if_elses depth 12

pub returns-then-x-gt126 : goal.returns-then-x-gt126
unfolding shown
returns-then-x-gt126 c = search if_elses depth 12

pub returns : goal.returns
unfolding shown
returns c = search if_elses depth 12
