use native.Mathlib.Omega.{arith}
use Rattle.control_rules.specs.Rules.{pins_right}
use Rattle.control_rules.specs.Descriptors.{kind_of}
use Rattle.control_rules.proofs.Shortest.{shortest, room}
use Rattle.control_rules.proofs.Subtypes.{pins-else}
use Rattle.control_rules.proofs.pins_right.Goals as goal

pub bounds-s-at : goal.bounds-s-at
unfolding kind_of shortest
bounds-s-at c = omega (arith, rw c.in-4.is at (room _ _ _ c.requires))

pub bounds-s-at-in-6 : goal.bounds-s-at-in-6
unfolding kind_of shortest
bounds-s-at-in-6 c = omega (arith, rw c.in-6.is at (room _ _ _ c.requires))

pub returns-in-4 : goal.returns-in-4
unfolding kind_of pins_right
returns-in-4 c = rw c.in-4.is c.pin_count.ensures

pub returns-in-6 : goal.returns-in-6
unfolding kind_of pins_right
returns-in-6 c = rw c.in-6.is c.pin_count-in-6.ensures

pub returns-in_default : goal.returns-in_default
returns-in_default c = search pins-else
