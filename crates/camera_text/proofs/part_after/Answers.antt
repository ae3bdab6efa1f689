use Rattle.rules.specs.IfElse.{if_elses}
use Rattle.camera_text.specs.Page.{part_from}
use Rattle.camera_text.proofs.part_after.Goals as goal

pub returns-then-at-s : goal.returns-then-at-s
unfolding part_from
returns-then-at-s c = search if_elses depth 8

pub returns : goal.returns
unfolding part_from
returns c = search if_elses depth 8
