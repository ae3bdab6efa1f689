use native.Mathlib.Omega.{arith}
use Rattle.host_session.proofs.Urb.{done_refused, done-yes, done-no}
use Rattle.host_session.proofs.packets.done_with.Goals as goal

pub returns-then-x-ne0 : goal.returns-then-x-ne0
returns-then-x-ne0 c = let d = done_refused c.args.x c.if-x-ne0.true in omega (arith, d)

pub returns-then-x-lt4 : goal.returns-then-x-lt4
returns-then-x-lt4 c = let d = done-yes c.args.x c.if-x-ne0.false c.if-x-lt4.true in omega (arith, d, c.more.ensures)

pub returns : goal.returns
returns c = let d = done-no c.args.x c.if-x-ne0.false c.if-x-lt4.false in omega (arith, d)
