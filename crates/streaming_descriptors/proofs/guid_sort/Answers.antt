use Rattle.streaming_descriptors.proofs.Guids.{is-yuy2, is-nv12, is-other, part}
use Rattle.streaming_descriptors.proofs.guid_sort.Goals as goal

pub returns-then-same : goal.returns-then-same
returns-then-same c = is-yuy2 _ _ (part c.args.s.now c.args.at) _ c.same.ensures c.if-same.true

pub returns-then-same-2 : goal.returns-then-same-2
returns-then-same-2 c = is-nv12 _ _ (part c.args.s.now c.args.at) _ c.same.ensures _ c.same-2.ensures c.if-same.false c.if-same-2.true

pub returns : goal.returns
returns c = is-other _ _ (part c.args.s.now c.args.at) _ c.same.ensures _ c.same-2.ensures c.if-same.false c.if-same-2.false
