use Rattle.frames.proofs.Choices.{none-ready}
use Rattle.frames.proofs.ready.Goals as goal

pub returns-then-is_none : goal.returns-then-is_none
returns-then-is_none c = rw c.if-is_none.true at (none-ready c.args.f c.args.bytes c.is_none.result c.is_none.ensures)

pub returns-else-is_none : goal.returns-else-is_none
returns-else-is_none c = let e = none-ready c.args.f c.args.bytes c.is_none.result c.is_none.ensures in rw c.if-is_none.false (rw c.if-is_none.false at e)
