use Rattle.rules.specs.IfElse.{if_elses}
use Rattle.templates.specs.Template.{is_field}
use Rattle.templates.proofs.is_field.Goals as goal

pub returns-then-t-i-lt4 : goal.returns-then-t-i-lt4
unfolding is_field
returns-then-t-i-lt4 c = search if_elses depth 12

pub returns : goal.returns
unfolding is_field
returns c = search if_elses depth 12
