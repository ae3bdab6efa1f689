use Rattle.rules.specs.IfElse.{if_elses}
use Rattle.control_map.specs.Answer.{control_byte}
use Rattle.control_map.proofs.control_byte.Goals as goal

pub returns-then-n-i : goal.returns-then-n-i
unfolding control_byte
returns-then-n-i c = search if_elses depth 8

pub returns : goal.returns
unfolding control_byte
returns c = search if_elses depth 8
