use Rattle.intervals.proofs.Tests.{offers-steps, offers-not, offers-among, room-none, room-some}
use mathlib.Core.Path.{◌∙◌}
use native.Mathlib.Omega.{arith}
use Rattle.intervals.proofs.offers.Goals as goal

pub le32-requires : goal.le32-requires
le32-requires c = omega (arith, room-none _ _ _ c.requires.0 c.if-k-eq0.true)

pub le32-requires-then-k-eq0 : goal.le32-requires-then-k-eq0
le32-requires-then-k-eq0 c = omega (arith, room-none _ _ _ c.requires.0 c.if-k-eq0.true)

pub le32-requires-then-k-eq0-2 : goal.le32-requires-then-k-eq0-2
le32-requires-then-k-eq0-2 c = omega (arith, room-none _ _ _ c.requires.0 c.if-k-eq0.true)

pub returns-then-k-eq0 : goal.returns-then-k-eq0
returns-then-k-eq0 c = search offers-steps

pub rise-requires : goal.rise-requires
rise-requires c = room-some _ _ _ c.requires c.if-k-eq0.false

pub has-requires : goal.has-requires
has-requires c = room-some _ _ _ c.requires c.if-k-eq0.false

pub returns-then-rise : goal.returns-then-rise
returns-then-rise c = search offers-among

pub returns-else-rise : goal.returns-else-rise
returns-else-rise c = c.if-rise.false ∙ offers-not _ _ _ _ _ c.if-k-eq0.false c.rise.ensures c.if-rise.false
