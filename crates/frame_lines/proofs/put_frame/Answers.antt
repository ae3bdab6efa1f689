use Rattle.std.proofs.Common.{arith}
use Rattle.text.proofs.Puts.{then}
use Rattle.frame_lines.proofs.put_frame.Goals as goal

pub returns : goal.returns
returns c = record { put = then c.digits-numbered.ensures.put (then c.put_how-fated.ensures.put (then c.number-sized.ensures.put (then c.put_stamp-stamped.ensures.put c.put.ensures))); upper_bound = omega arith }
