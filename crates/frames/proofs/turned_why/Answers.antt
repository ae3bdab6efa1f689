use Rattle.rules.specs.IfElse.{said-yes, said-no}
use mathlib.Core.Path.{refl}
use Rattle.frames.proofs.turned_why.Goals as goal

pub returns-then-by_eof : goal.returns-then-by_eof
returns-then-by_eof c = said-yes _ _ _ _ _ c.by_eof.ensures c.if-by_eof.true refl

pub returns-else-by_eof : goal.returns-else-by_eof
returns-else-by_eof c = said-no _ _ _ _ _ c.by_eof.ensures c.if-by_eof.false refl
