use mathlib.Core.Path.{◌≡◌, ◌∙◌}
use mathlib.Core.Bool.{false}
use Rattle.rules.specs.IfElse.{if_elses}
use Rattle.setup_lines.specs.Inner.{is_below}
use Rattle.setup_lines.proofs.is_below.Goals as goal

pub returns-then-is_signed : goal.returns-then-is_signed
unfolding is_below
returns-then-is_signed c = search if_elses depth 8

pub returns-else-is_signed : goal.returns-else-is_signed
unfolding is_below
returns-else-is_signed c = let e : false ≡ is_below c.args.setting c.args.word = search if_elses depth 8 in c.if-is_signed.false ∙ e
