use native.Mathlib.Omega.{arith}
use Rattle.camera_names.proofs.Bits.{line-room, named, clear}
use Rattle.camera_names.proofs.control.Goals as goal

pub line-requires : goal.line-requires
line-requires c = line-room _ _ _ _ c.requires.2 c.requires.0 (omega arith)

pub returns-then-set : goal.returns-then-set
returns-then-set c = let both = named _ _ _ c.if-set.true c.requires.2 c.requires.0 c.put-next.ensures c.line.ensures in record { put = both.0; upper_bound = both.1 }

pub returns : goal.returns
returns c = let both = clear c.args.names.now c.args.i _ _ _ c.if-set.false (omega arith) in record { put = both.0; upper_bound = both.1 }
