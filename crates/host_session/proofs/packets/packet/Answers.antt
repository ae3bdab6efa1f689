use lib.ListN.{drop}
use Rattle.host_session.proofs.Urb.{over-stride, not-there-at, there-at}
use Rattle.host_session.proofs.packets.packet.Goals as goal

pub returns-then-stride-n : goal.returns-then-stride-n
returns-then-stride-n c = rw (over-stride c.args.stride c.args.n (drop c.args.at c.args.bytes.now) c.args.m.now c.args.w.now c.args.buffer.now c.if-stride-n.true) (c.missed.ensures c.args.buffer.now)

pub returns-then-bytes-at : goal.returns-then-bytes-at
returns-then-bytes-at c = rw (not-there-at c.args.stride c.args.n c.args.at c.args.bytes.now c.args.m.now c.args.w.now c.args.buffer.now c.if-stride-n.false c.if-bytes-at.true) (c.missed-then-bytes-at.ensures c.args.buffer.now)

pub returns : goal.returns
returns c = rw (there-at c.args.stride c.args.n c.args.at c.args.bytes.now c.args.m.now c.args.w.now c.args.buffer.now c.if-stride-n.false c.if-bytes-at.false) c.came.ensures
