use Rattle.camera_lines.proofs.Choices.{choices}
use Rattle.camera_lines.specs.Lines.{input_by}
use borrow.Author.Rules.{rules}
use Rattle.camera_lines.proofs.input_by.Goals as goal

pub returns-then-number-eq-CAMERA : goal.returns-then-number-eq-CAMERA
unfolding input_by
returns-then-number-eq-CAMERA c = search (choices, rules) depth 20

pub returns : goal.returns
unfolding input_by
returns c = search (choices, rules) depth 20
