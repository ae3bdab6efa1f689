use Rattle.setup_arguments.proofs.Words.{no_text, with-minus, no_minus}
use Rattle.setup_arguments.proofs.signed.Goals as goal

pub returns-then-text-eq0 : goal.returns-then-text-eq0
returns-then-text-eq0 c = no_text _ c.if-text-eq0.true

pub returns-then-text-eq45 : goal.returns-then-text-eq45
returns-then-text-eq45 c = with-minus _ _ _ c.if-text-eq0.false c.if-text-eq45.true c.read.ensures c.minus.ensures

pub returns : goal.returns
returns c = no_minus _ _ c.if-text-eq0.false c.if-text-eq45.false c.read-2.ensures
