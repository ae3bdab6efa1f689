use Rattle.rules.specs.IfElse.{if_elses}
use Rattle.templates.specs.Template.{length_at}
use Rattle.templates.proofs.length_at.Goals as goal

pub returns-then-is_field : goal.returns-then-is_field
unfolding length_at
returns-then-is_field c = search if_elses depth 12

pub returns : goal.returns
unfolding length_at
returns c = search if_elses depth 12
