use Rattle.camera_lines.proofs.Choices.{choices}
use Rattle.camera_lines.specs.Lines.{endpoint_by}
use borrow.Author.Rules.{rules}
use Rattle.camera_lines.proofs.endpoint_by.Goals as goal

pub returns-then-attributes-eq2 : goal.returns-then-attributes-eq2
unfolding endpoint_by
returns-then-attributes-eq2 c = search (choices, rules) depth 20

pub returns : goal.returns
unfolding endpoint_by
returns c = search (choices, rules) depth 20
