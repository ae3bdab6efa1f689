use Rattle.rules.specs.IfElse.{if_elses}
use Rattle.entities.proofs.find_placed.Goals as goal

pub returns-then-places-count : goal.returns-then-places-count
returns-then-places-count c = search if_elses depth 8

pub returns : goal.returns
returns c = search if_elses depth 8
