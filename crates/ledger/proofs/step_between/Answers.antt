use Rattle.rules.specs.IfElse.{if_elses}
use Rattle.ledger.proofs.step_between.Goals as goal

pub returns-then-ahead-lt-TICKS : goal.returns-then-ahead-lt-TICKS
returns-then-ahead-lt-TICKS c = search if_elses depth 8

pub returns-else-ahead-lt-TICKS : goal.returns-else-ahead-lt-TICKS
returns-else-ahead-lt-TICKS c = search if_elses depth 8
