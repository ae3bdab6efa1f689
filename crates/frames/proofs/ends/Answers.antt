use Rattle.frames.proofs.Turns.{and_yes, and_no}
use Rattle.frames.proofs.ends.Goals as goal

pub returns-then-by_eof : goal.returns-then-by_eof
returns-then-by_eof c = search and_yes

pub returns-else-by_eof : goal.returns-else-by_eof
returns-else-by_eof c = and_no _ _ _ c.by_eof.ensures c.if-by_eof.false
