use Rattle.send_records.proofs.Wrote.{front-record}
use Rattle.send_records.proofs.record.Goals as goal

pub returns-then-written : goal.returns-then-written
returns-then-written c = front-record c.args.written c.args.n c.args.room.now c.args.out.now _ c.if-written.true
    c.full.ensures
