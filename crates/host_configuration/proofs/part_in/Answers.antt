use Rattle.host_configuration.proofs.Telling.{there-first, at_first, there-later, at-later}
use Rattle.host_configuration.proofs.part_in.Goals as goal

pub returns-then-k-eq0 : goal.returns-then-k-eq0
returns-then-k-eq0 c = search (there-first, at_first)

pub returns : goal.returns
returns c = search (there-later, at-later)
