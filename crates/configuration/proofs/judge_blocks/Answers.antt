use Rattle.interfaces.proofs.Listing.{streams-few}
use native.Mathlib.Omega.{arith}
use Rattle.configuration.proofs.Reading.{end-in, late-in, late-control, late-73, late-rest}
use Rattle.configuration.proofs.judge_blocks.Goals as goal

pub overflow_add-end : goal.overflow_add-end
overflow_add-end c = omega (arith, end-in _ _ c.requires _ c.block_at-b.ensures)

pub slice_bounds-read-end : goal.slice_bounds-read-end
slice_bounds-read-end c = end-in _ _ c.requires _ c.block_at-b.ensures

pub overflow_add-result : goal.overflow_add-result
overflow_add-result c = omega (arith, late-in _ _ c.requires _ c.block_at-b.ensures _ c.read-c.ensures _ _ c.in-Err.is)

pub returns-in-Err : goal.returns-in-Err
returns-in-Err c = late-control _ _ c.requires _ c.block_at-b.ensures _ c.read-c.ensures _ _ c.in-Err.is

pub slice_bounds-entries_named-end : goal.slice_bounds-entries_named-end
slice_bounds-entries_named-end c = end-in _ _ c.requires _ c.block_at-b.ensures

pub entries_named-requires : goal.entries_named-requires
entries_named-requires c = streams-few _ _ c.listed-l.ensures

pub returns-then-not-entries_named : goal.returns-then-not-entries_named
returns-then-not-entries_named c = late-73 _ _ c.requires _ c.block_at-b.ensures _ c.read-c.ensures c.in_default.is _
    c.listed-l.ensures _ c.entries_named.ensures c.if-not-entries_named.true

pub returns : goal.returns
returns c = late-rest _ _ c.requires _ c.block_at-b.ensures _ c.read-c.ensures c.in_default.is _
    c.listed-l.ensures _ c.entries_named.ensures c.if-not-entries_named.false _ c.streams_verdict.ensures
