use native.Mathlib.Omega.{arith}
use Rattle.rules.specs.IfElse.{if_elses}
use Rattle.streaming_descriptors.proofs.bits_at.Goals as goal

pub overflow_add-result : goal.overflow_add-result
overflow_add-result c = omega (arith, c.requires c.if-guided.true)

pub bounds-s-at : goal.bounds-s-at
bounds-s-at c = omega (arith, c.requires c.if-guided.true)

pub returns-then-guided : goal.returns-then-guided
returns-then-guided c = search if_elses

pub returns : goal.returns
returns c = search if_elses
