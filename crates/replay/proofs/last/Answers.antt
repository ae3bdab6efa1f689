use Rattle.replay.proofs.Read.{first-ran}
use native.Mathlib.Omega.{arith}
use Rattle.replay.proofs.last.Goals as goal

pub slice_bounds-run-end : goal.slice_bounds-run-end
slice_bounds-run-end c = omega (arith, c.requires.0, c.requires.1)

pub shape_of-out : goal.shape_of-out
shape_of-out c = c.run.ensures.put.size

pub returns : goal.returns
returns c = first-ran _ _ _ c.args.piece.now _ c.args.r.have _ _ c.run.ensures
