use native.Mathlib.Omega.{arith}
use Rattle.streaming_descriptors.specs.Descriptors.{format_at, format_of}
use Rattle.streaming_descriptors.proofs.Subtypes.{fits, its-layout, default-in, guided-in}
use Rattle.streaming_descriptors.proofs.format_at.Goals as goal

pub overflow_add-default : goal.overflow_add-default
overflow_add-default c = omega (arith, default-in _ _ (its-layout c.args.kind _ _ c.format_of-format.ensures c.layout_of-l.ensures))

pub guid_at-guid-requires : goal.guid_at-guid-requires
guid_at-guid-requires c = search (guided-in, its-layout)

pub bits_at-bits-requires : goal.bits_at-bits-requires
bits_at-bits-requires c = search (guided-in, its-layout)

pub bounds-s-at : goal.bounds-s-at
bounds-s-at c = let w = (fits (format_of c.args.kind)).numbered in omega arith

pub bounds-s-default : goal.bounds-s-default
bounds-s-default c = omega (arith, default-in _ _ (its-layout c.args.kind _ _ c.format_of-format.ensures c.layout_of-l.ensures))

pub returns : goal.returns
unfolding format_at
returns c = rw (c.guid_at-guid.ensures, c.bits_at-bits.ensures, c.layout_of-l.ensures, c.format_of-format.ensures)
