use Rattle.rules.specs.IfElse.{if_elses}
use Rattle.streaming_descriptors.proofs.size_at.Goals as goal

pub returns-then-sized : goal.returns-then-sized
returns-then-sized c = search if_elses

pub returns : goal.returns
returns c = search if_elses
