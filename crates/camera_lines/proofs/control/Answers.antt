use Rattle.camera_lines.proofs.Choices.{choices}
use Rattle.text.proofs.Texts.{none}
use Rattle.camera_lines.specs.Lines.{control_text}
use borrow.Author.Rules.{rules}
use Rattle.camera_lines.proofs.control.Goals as goal

pub returns-then-sub-eq1 : goal.returns-then-sub-eq1
unfolding control_text
returns-then-sub-eq1 c = search (choices, rules) depth 20

pub returns-then-sub-eq2 : goal.returns-then-sub-eq2
unfolding control_text
returns-then-sub-eq2 c = search (choices, rules) depth 20

pub returns-then-sub-eq3 : goal.returns-then-sub-eq3
unfolding control_text
returns-then-sub-eq3 c = search (choices, rules) depth 20

pub returns-then-sub-eq4 : goal.returns-then-sub-eq4
unfolding control_text
returns-then-sub-eq4 c = search (choices, rules) depth 20

pub returns-then-sub-eq5 : goal.returns-then-sub-eq5
unfolding control_text
returns-then-sub-eq5 c = search (choices, rules) depth 20

pub returns-then-sub-eq6 : goal.returns-then-sub-eq6
unfolding control_text
returns-then-sub-eq6 c = search (choices, rules) depth 20

pub returns-then-sub-eq7 : goal.returns-then-sub-eq7
unfolding control_text
returns-then-sub-eq7 c = search (choices, rules) depth 20

pub returns : goal.returns
unfolding control_text
returns c = search (choices, none, rules) depth 20
