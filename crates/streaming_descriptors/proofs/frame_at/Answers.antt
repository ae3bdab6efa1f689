use native.Mathlib.Omega.{arith}
use Rattle.streaming_descriptors.specs.Descriptors.{frame_at}
use Rattle.streaming_descriptors.proofs.Subtypes.{k-in, interval-in}
use Rattle.streaming_descriptors.proofs.frame_at.Goals as goal

pub overflow_add-k : goal.overflow_add-k
overflow_add-k c = omega (arith, k-in _ _ c.layout_of-l.ensures)

pub overflow_add-at-3 : goal.overflow_add-at-3
overflow_add-at-3 c = omega (arith, interval-in _ _ c.layout_of-l.ensures)

pub le32-interval-requires : goal.le32-interval-requires
le32-interval-requires c = omega (arith, interval-in _ _ c.layout_of-l.ensures)

pub bounds-s-k : goal.bounds-s-k
bounds-s-k c = omega (arith, k-in _ _ c.layout_of-l.ensures)

pub returns : goal.returns
unfolding frame_at
returns c = rw (c.le16-width.ensures, c.le16-height.ensures, c.size_at-size.ensures, c.le32-interval.ensures, c.layout_of-l.ensures, c.format_of-format.ensures)
