use Rattle.host_session.proofs.Urb.{next_past, next-there}
use Rattle.host_session.proofs.packets.next.Goals as goal

pub returns-then-bytes-at : goal.returns-then-bytes-at
returns-then-bytes-at c = next_past c.args.bytes.now c.args.at c.args.stride c.requires c.if-bytes-at.true

pub returns : goal.returns
returns c = next-there c.args.bytes.now c.args.at c.args.stride c.requires c.if-bytes-at.false
