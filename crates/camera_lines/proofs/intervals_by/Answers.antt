use Rattle.camera_lines.proofs.Choices.{choices}
use Rattle.camera_lines.specs.Lines.{intervals_by}
use borrow.Author.Rules.{rules}
use Rattle.camera_lines.proofs.intervals_by.Goals as goal

pub returns-then-n-eq0 : goal.returns-then-n-eq0
unfolding intervals_by
returns-then-n-eq0 c = search (choices, rules) depth 20

pub returns : goal.returns
unfolding intervals_by
returns c = search (choices, rules) depth 20
