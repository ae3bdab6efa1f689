use Rattle.rules.specs.IfElse.{if_elses}
use Rattle.camera_lines.specs.Parts.{header_part}
use Rattle.camera_lines.proofs.header_part.Goals as goal

pub returns-then-sub-ne1 : goal.returns-then-sub-ne1
unfolding header_part
returns-then-sub-ne1 c = search if_elses depth 12

pub returns-then-revision-eq336 : goal.returns-then-revision-eq336
unfolding header_part
returns-then-revision-eq336 c = search if_elses depth 12

pub returns : goal.returns
unfolding header_part
returns c = search if_elses depth 12
