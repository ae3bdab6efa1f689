use Rattle.sender.proofs.Writing.{wrote-is, put_is}
use Rattle.sender.proofs.write.Goals as goal

pub returns : goal.returns
returns c = record { value = wrote-is c.args.x c.args.frame.now c.args.room.now c.args.payload c.args.stamp c.requires _ _ c.size_of-header.ensures c.min-n.ensures; room_after = put_is c.args.x c.args.frame.now c.args.room.now c.args.payload c.args.stamp c.requires _ _ c.size_of-header.ensures c.min-n.ensures _ _ c.write_header.ensures c.put.ensures }
