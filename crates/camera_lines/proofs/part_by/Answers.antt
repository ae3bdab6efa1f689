use Rattle.rules.specs.IfElse.{if_elses}
use Rattle.camera_lines.specs.Parts.{part_by}
use Rattle.camera_lines.proofs.part_by.Goals as goal

pub returns-then-kind-eq36 : goal.returns-then-kind-eq36
unfolding part_by
returns-then-kind-eq36 c = search if_elses depth 12

pub returns-then-kind-eq4 : goal.returns-then-kind-eq4
unfolding part_by
returns-then-kind-eq4 c = search if_elses depth 12

pub returns : goal.returns
unfolding part_by
returns c = search if_elses depth 12
