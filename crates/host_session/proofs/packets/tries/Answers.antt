use Rattle.host_session.proofs.Ways.{nothing}
use Rattle.host_session.proofs.packets.tries.Goals as goal

pub returns-then-not-known : goal.returns-then-not-known
returns-then-not-known c = nothing c.args.m.now c.args.w.now c.args.buffer.now c.args.t.now c.args.known c.requires.0

pub goes-requires : goal.goes-requires
goes-requires c = (c.requires.0, ((c.requires.1 c.if-not-known.false).spare, λ a. (c.requires.1 a).posted))

pub returns : goal.returns
returns c = c.goes.ensures
