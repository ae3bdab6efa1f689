use Rattle.rules.specs.IfElse.{if_elses}
use Rattle.device_file.specs.Place.{first_of}
use Rattle.device_file.proofs.first.Goals as goal

pub returns-then-left-total : goal.returns-then-left-total
unfolding first_of
returns-then-left-total c = search if_elses depth 8

pub returns : goal.returns
unfolding first_of
returns c = search if_elses depth 8
