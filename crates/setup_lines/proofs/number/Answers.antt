use native.Mathlib.Omega.{arith}
use Rattle.setup_lines.proofs.Signs.{line-below, line-above}
use mathlib.Core.Path.{◌∙◌, sym}
use Rattle.setup_lines.proofs.number.Goals as goal

pub returns-then-is_below : goal.returns-then-is_below
returns-then-is_below c = rw (line-below _ _ (omega arith) (sym c.is_below.ensures ∙ c.if-is_below.true)) c.spelt.ensures

pub returns : goal.returns
returns c = rw (line-above _ _ (sym c.is_below.ensures ∙ c.if-is_below.false)) c.spelt-2.ensures
