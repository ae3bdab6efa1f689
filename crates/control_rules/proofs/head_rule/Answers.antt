use Rattle.rules.proofs.Kept.{ok-kept, err-kept}
use native.Mathlib.Omega.{arith}
use Rattle.control_rules.proofs.head_rule.Goals as goal

pub returns-in-0 : goal.returns-in-0
returns-in-0 c = ok-kept _ (omega (arith, c.whole_rule.ensures, c.in-0.is))

pub returns-in_default : goal.returns-in_default
returns-in_default c = err-kept _ _ (omega arith) (c.whole_rule.ensures)
