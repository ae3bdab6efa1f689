use native.Mathlib.Omega.{arith}
use Rattle.rules.specs.IfElse.{if_elses}
use Rattle.nearest.specs.Inner.{shifted}
use Rattle.nearest.proofs.shift.Goals as goal

pub returns-then-is_signed : goal.returns-then-is_signed
unfolding shifted
returns-then-is_signed c = (search if_elses depth 8, c.turn.ensures.1)

pub returns : goal.returns
unfolding shifted
returns c = (search if_elses depth 8, omega arith)
