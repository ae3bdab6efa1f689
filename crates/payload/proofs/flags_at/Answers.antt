use native.Mathlib.Omega.{arith}
use Rattle.session_rules.proofs.Laid.{least-four, flags-one, flags-three}
use Rattle.payload.proofs.flags_at.Goals as goal

pub returns-then-l-eq2 : goal.returns-then-l-eq2
returns-then-l-eq2 c = flags-one c.args.l _ c.if-l-eq2.true

pub overflow_add-result : goal.overflow_add-result
overflow_add-result c = omega (arith, c.type_inv.t 1)

pub returns : goal.returns
returns c = flags-three c.args.l _ _ (least-four _ c.requires.0 c.if-l-eq2.false) c.le16-high.ensures
