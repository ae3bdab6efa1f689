use native.Mathlib.Omega.{arith}
use Rattle.control_rules.specs.Rules.{revision_right}
use Rattle.control_rules.specs.Descriptors.{kind_of}
use Rattle.control_rules.proofs.Shortest.{shortest, room}
use Rattle.control_rules.proofs.Subtypes.{revision-else}
use Rattle.control_rules.proofs.revision_right.Goals as goal

pub le16-requires : goal.le16-requires
unfolding kind_of shortest
le16-requires c = omega (arith, rw c.in-1.is at (room _ _ _ c.requires))

pub returns-in-1 : goal.returns-in-1
unfolding kind_of revision_right
returns-in-1 c = rw (c.in-1.is, ← c.le16.ensures) c.is_revision.ensures

pub returns-in_default : goal.returns-in_default
returns-in_default c = revision-else _ _ _ (λ e. omega arith)
