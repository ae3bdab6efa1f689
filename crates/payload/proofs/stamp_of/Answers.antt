use mathlib.Core.Path.{sym, ◌∙◌}
use native.Mathlib.Omega.{arith}
use Rattle.session_rules.proofs.Readings.{stamp-room}
use Rattle.rules.specs.IfElse.{if_elses}
use Rattle.session_rules.specs.Transfer.{stamp_of}
use Rattle.payload.proofs.stamp_of.Goals as goal

pub le32-requires : goal.le32-requires
le32-requires c = let h = stamp-room c.args.l _ (sym c.flag.ensures ∙ c.if-flag.true) in omega arith

pub returns-then-flag : goal.returns-then-flag
unfolding stamp_of
returns-then-flag c = search if_elses depth 8

pub returns-else-flag : goal.returns-else-flag
unfolding stamp_of
returns-else-flag c = search if_elses depth 8
