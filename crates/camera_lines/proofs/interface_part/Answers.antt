use Rattle.rules.specs.IfElse.{if_elses}
use Rattle.camera_lines.specs.Parts.{interface_part}
use Rattle.camera_lines.proofs.interface_part.Goals as goal

pub returns-then-is_sought : goal.returns-then-is_sought
unfolding interface_part
returns-then-is_sought c = search if_elses depth 12

pub returns-then-is_sought-2 : goal.returns-then-is_sought-2
unfolding interface_part
returns-then-is_sought-2 c = search if_elses depth 12

pub returns-then-is_streaming : goal.returns-then-is_streaming
unfolding interface_part
returns-then-is_streaming c = search if_elses depth 12

pub returns : goal.returns
unfolding interface_part
returns c = search if_elses depth 12
