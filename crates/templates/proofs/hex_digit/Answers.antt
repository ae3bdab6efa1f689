use Rattle.rules.specs.IfElse.{if_elses}
use Rattle.templates.specs.Values.{hex_digit}
use Rattle.templates.proofs.hex_digit.Goals as goal

pub returns-then-d-lt10 : goal.returns-then-d-lt10
unfolding hex_digit
returns-then-d-lt10 c = search if_elses depth 12

pub returns : goal.returns
unfolding hex_digit
returns c = search if_elses depth 12
