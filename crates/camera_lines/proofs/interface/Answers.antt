use Rattle.camera_lines.proofs.Choices.{choices}
use Rattle.text.proofs.Texts.{none}
use Rattle.camera_lines.specs.Lines.{interface_text}
use borrow.Author.Rules.{rules}
use Rattle.camera_lines.proofs.interface.Goals as goal

pub returns-then-is_sought : goal.returns-then-is_sought
unfolding interface_text
returns-then-is_sought c = search (choices, rules) depth 20

pub returns-then-is_streaming : goal.returns-then-is_streaming
unfolding interface_text
returns-then-is_streaming c = search (choices, rules) depth 20

pub returns : goal.returns
unfolding interface_text
returns c = search (choices, none, rules) depth 20
