use Rattle.rules.specs.IfElse.{if_elses}
use Rattle.templates.specs.Values.{hundredths}
use Rattle.templates.proofs.hundred_seconds.Goals as goal

pub returns-then-n-eq0 : goal.returns-then-n-eq0
unfolding hundredths
returns-then-n-eq0 c = search if_elses depth 12

pub returns : goal.returns
unfolding hundredths
returns c = search if_elses depth 12
