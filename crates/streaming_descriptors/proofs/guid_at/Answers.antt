use native.Mathlib.Omega.{arith}
use Rattle.rules.specs.IfElse.{if_elses}
use Rattle.streaming_descriptors.proofs.guid_at.Goals as goal

pub guid_sort-requires : goal.guid_sort-requires
guid_sort-requires c = omega (arith, c.requires c.if-guided.true)

pub returns-then-guided : goal.returns-then-guided
returns-then-guided c = search if_elses

pub returns : goal.returns
returns c = search if_elses
