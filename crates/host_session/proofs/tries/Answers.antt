use mathlib.Core.Bool.{false}
use mathlib.Core.Path.{sym, ◌∙◌}
use Rattle.host_session.proofs.Ways.{never, nothing}
use Rattle.host_session.proofs.tries.Goals as goal

pub returns-then-spare_set : goal.returns-then-spare_set
returns-then-spare_set c = nothing c.args.m.now c.args.w.now c.args.buffer.now c.args.t.now false c.requires

pub goes-requires : goal.goes-requires
goes-requires c = (c.requires, (sym c.spare_set.ensures ∙ c.if-spare_set.false, never))

pub returns : goal.returns
returns c = c.goes.ensures
