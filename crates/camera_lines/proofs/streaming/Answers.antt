use Rattle.camera_lines.proofs.Choices.{choices}
use Rattle.text.proofs.Texts.{none}
use Rattle.camera_lines.specs.Lines.{streaming_text}
use borrow.Author.Rules.{rules}
use Rattle.camera_lines.proofs.streaming.Goals as goal

pub returns-then-sub-eq1 : goal.returns-then-sub-eq1
unfolding streaming_text
returns-then-sub-eq1 c = search (choices, rules) depth 20

pub returns-then-sub-eq4 : goal.returns-then-sub-eq4
unfolding streaming_text
returns-then-sub-eq4 c = search (choices, rules) depth 20

pub returns-then-sub-eq5 : goal.returns-then-sub-eq5
unfolding streaming_text
returns-then-sub-eq5 c = search (choices, rules) depth 20

pub returns-then-sub-eq6 : goal.returns-then-sub-eq6
unfolding streaming_text
returns-then-sub-eq6 c = search (choices, rules) depth 20

pub returns-then-sub-eq7 : goal.returns-then-sub-eq7
unfolding streaming_text
returns-then-sub-eq7 c = search (choices, rules) depth 20

pub returns-then-sub-eq16 : goal.returns-then-sub-eq16
unfolding streaming_text
returns-then-sub-eq16 c = search (choices, rules) depth 20

pub returns-then-sub-eq17 : goal.returns-then-sub-eq17
unfolding streaming_text
returns-then-sub-eq17 c = search (choices, rules) depth 20

pub returns : goal.returns
unfolding streaming_text
returns c = search (choices, none, rules) depth 20
