use Rattle.payload.proofs.is_still.Goals as goal

pub returns-then-l : goal.returns-then-l
returns-then-l c = rw c.if-l.true c.flag.ensures

pub returns-else-l : goal.returns-else-l
returns-else-l c = rw c.if-l.false
