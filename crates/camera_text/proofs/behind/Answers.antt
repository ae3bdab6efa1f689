use Rattle.text.proofs.Texts.{none}
use native.Mathlib.Omega.{arith}
use Rattle.camera_text.specs.Page.{behind_text}
use borrow.Author.Tests.{eq-eqb, ne_eqb}
use Rattle.rules.specs.IfElse.{if_else}
use Rattle.camera_text.proofs.behind.Goals as goal

pub returns-then-n-eq0 : goal.returns-then-n-eq0
unfolding behind_text if_else
returns-then-n-eq0 c = record { put = rw (eq-eqb _ _ c.if-n-eq0.true) (none _ _ (omega arith)); upper_bound = omega arith }

pub returns : goal.returns
unfolding behind_text if_else
returns c = record { put = rw (ne_eqb _ _ c.if-n-eq0.false) c.put.ensures; upper_bound = omega (arith, c.put.ensures.next) }
