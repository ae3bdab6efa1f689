use Rattle.replay.proofs.Records.{positive}
use native.Mathlib.Omega.{arith}
use Rattle.replay.proofs.Read.{stop_is, stop-bounds, rested}
use Rattle.replay.proofs.rest_of.Goals as goal

pub end-end-requires : goal.end-end-requires
end-end-requires c = (omega (arith, c.size.ensures, positive c.args.form), c.requires.0)

pub slice_bounds-run-count : goal.slice_bounds-run-count
slice_bounds-run-count c = omega
    (arith, (stop-bounds c.args.form _ _ _ c.requires.0 (stop_is c.args.form _ _ _ _ c.size.ensures c.end-end.ensures)).0)

pub slice_bounds-run-start : goal.slice_bounds-run-start
slice_bounds-run-start c = omega
    (arith, (stop-bounds c.args.form _ _ _ c.requires.0 (stop_is c.args.form _ _ _ _ c.size.ensures c.end-end.ensures)).0)

pub slice_bounds-run-end : goal.slice_bounds-run-end
slice_bounds-run-end c = omega
    (arith, (stop-bounds c.args.form _ _ _ c.requires.0 (stop_is c.args.form _ _ _ _ c.size.ensures c.end-end.ensures)).1)

pub slice_bounds-fill-count : goal.slice_bounds-fill-count
slice_bounds-fill-count c = omega
    (arith, (stop-bounds c.args.form _ _ _ c.requires.0 (stop_is c.args.form _ _ _ _ c.size.ensures c.end-end.ensures)).1)

pub slice_bounds-fill-start : goal.slice_bounds-fill-start
slice_bounds-fill-start c = omega
    (arith, (stop-bounds c.args.form _ _ _ c.requires.0 (stop_is c.args.form _ _ _ _ c.size.ensures c.end-end.ensures)).1)

pub returns : goal.returns
returns c = rested _ _ _ _ _ _ _ _ _ _ _ _ _ (stop_is c.args.form _ _ _ _ c.size.ensures c.end-end.ensures) c.run-lined.ensures
    c.fill-have.ensures.value c.fill-have.ensures.piece_after
