use native.Mathlib.Omega.{arith}
use Rattle.configuration.proofs.Reading.{end-in, own-accepted, own_in, own-refused}
use Rattle.configuration.proofs.block_verdict.Goals as goal

pub overflow_add-end : goal.overflow_add-end
overflow_add-end c = omega (arith, end-in _ _ c.requires _ c.block_at-b.ensures)

pub slice_bounds-stream_verdict-end : goal.slice_bounds-stream_verdict-end
slice_bounds-stream_verdict-end c = end-in _ _ c.requires _ c.block_at-b.ensures

pub overflow_add-result : goal.overflow_add-result
overflow_add-result c = omega
    (arith, own_in _ _ c.requires _ c.block_at-b.ensures _ _ c.stream_verdict.ensures _ _ c.in-Err.is)

pub returns-in-Ok : goal.returns-in-Ok
returns-in-Ok c = own-accepted _ _ c.requires _ c.block_at-b.ensures _ _ c.stream_verdict.ensures c.in-Ok.is

pub returns-in-Err : goal.returns-in-Err
returns-in-Err c = own-refused _ _ c.requires _ c.block_at-b.ensures _ _ c.stream_verdict.ensures _ _
    c.in-Err.is
