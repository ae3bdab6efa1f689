use Rattle.rules.specs.IfElse.{if_elses}
use Rattle.one_call.specs.Words.{stamp_in}
use Rattle.one_call.proofs.stamp_in.Goals as goal

pub returns-then-x-lt-ABSENT : goal.returns-then-x-lt-ABSENT
unfolding stamp_in
returns-then-x-lt-ABSENT c = search if_elses

pub returns-else-x-lt-ABSENT : goal.returns-else-x-lt-ABSENT
unfolding stamp_in
returns-else-x-lt-ABSENT c = search if_elses
