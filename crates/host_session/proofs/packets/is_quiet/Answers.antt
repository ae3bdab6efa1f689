use Rattle.host_session.proofs.Urb.{quiet-refused, quiet-ended, quiet-fate}
use Rattle.host_session.proofs.packets.is_quiet.Goals as goal

pub returns-then-x-ne0 : goal.returns-then-x-ne0
returns-then-x-ne0 c = quiet-refused c.args.x c.if-x-ne0.true

pub returns-then-x-ne0-2 : goal.returns-then-x-ne0-2
returns-then-x-ne0-2 c = quiet-ended c.args.x c.if-x-ne0.false c.if-x-ne0-2.true

pub returns : goal.returns
returns c = quiet-fate c.args.x c.if-x-ne0.false c.if-x-ne0-2.false
