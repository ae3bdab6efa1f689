use Rattle.camera_lines.proofs.Choices.{choices}
use Rattle.text.proofs.Texts.{none}
use Rattle.camera_lines.specs.Lines.{type_text}
use borrow.Author.Rules.{rules}
use Rattle.camera_lines.proofs.by_type.Goals as goal

pub returns-then-kind-eq36 : goal.returns-then-kind-eq36
unfolding type_text
returns-then-kind-eq36 c = search (choices, rules) depth 20

pub returns-then-kind-eq5 : goal.returns-then-kind-eq5
unfolding type_text
returns-then-kind-eq5 c = search (choices, rules) depth 20

pub returns-then-kind-eq4 : goal.returns-then-kind-eq4
unfolding type_text
returns-then-kind-eq4 c = search (choices, rules) depth 20

pub returns-then-kind-eq2 : goal.returns-then-kind-eq2
unfolding type_text
returns-then-kind-eq2 c = search (choices, rules) depth 20

pub returns : goal.returns
unfolding type_text
returns c = search (choices, none, rules) depth 20
