use mathlib.Core.Path.{refl}
use native.Mathlib.Omega.{arith}
use Rattle.name_tables.proofs.Names.{at-end, at_other, at_last}
use Rattle.name_tables.proofs.end.Goals as goal

pub loop-i-init : goal.loop-i-init
loop-i-init c = record { within = omega arith; same = refl }

pub returns-then-names-i-eq10 : goal.returns-then-names-i-eq10
returns-then-names-i-eq10 c = search at-end

pub loop-i-preserved : goal.loop-i-preserved
loop-i-preserved c = search at_other

pub returns : goal.returns
returns c = search at_last
