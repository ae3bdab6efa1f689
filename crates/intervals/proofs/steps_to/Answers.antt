use Rattle.rules.specs.IfElse.{if_elses}
use Rattle.intervals.specs.Intervals.{stepped}
use Rattle.intervals.proofs.steps_to.Goals as goal

pub returns-then-shortest-eq0 : goal.returns-then-shortest-eq0
unfolding stepped
returns-then-shortest-eq0 c = search if_elses depth 12

pub returns-then-step-eq0 : goal.returns-then-step-eq0
unfolding stepped
returns-then-step-eq0 c = search if_elses depth 12

pub returns-then-longest-shortest : goal.returns-then-longest-shortest
unfolding stepped
returns-then-longest-shortest c = search if_elses depth 12

pub returns-then-x-shortest : goal.returns-then-x-shortest
unfolding stepped
returns-then-x-shortest c = search if_elses depth 12

pub returns-then-longest-x : goal.returns-then-longest-x
unfolding stepped
returns-then-longest-x c = search if_elses depth 12

pub returns : goal.returns
unfolding stepped
returns c = search if_elses depth 12
