use native.Mathlib.Omega.{arith}
use Rattle.streaming_descriptors.proofs.Subtypes.{frame-short, frame-steps, frame-list, k-in, k-is}
use Rattle.streaming_descriptors.proofs.frame_shape.Goals as goal

pub returns-then-len-lt26 : goal.returns-then-len-lt26
returns-then-len-lt26 c = search frame-short

pub overflow_add-place : goal.overflow_add-place
overflow_add-place c = omega (arith, k-in _ _ c.layout_of-l.ensures)

pub bounds-s-place : goal.bounds-s-place
bounds-s-place c = omega (arith, k-in _ _ c.layout_of-l.ensures)

pub returns-then-k-eq0 : goal.returns-then-k-eq0
returns-then-k-eq0 c = search (frame-steps, k-is)

pub returns : goal.returns
returns c = search (frame-list, k-is)
