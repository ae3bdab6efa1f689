use native.Mathlib.Omega.{arith}
use Rattle.control_rules.specs.Descriptors.{kind_of}
use Rattle.control_map.specs.Inner.{place_by}
use Rattle.control_map.proofs.Mapping.{place-else}
use Rattle.control_map.proofs.controls_place.Goals as goal

pub returns-in-2 : goal.returns-in-2
unfolding kind_of place_by
returns-in-2 c = rw c.in-2.is c.camera_place.ensures

pub returns-in-5 : goal.returns-in-5
unfolding kind_of place_by
returns-in-5 c = rw c.in-5.is

pub returns-in_default : goal.returns-in_default
returns-in_default c = place-else c.args.terminal c.args.kind (λ e. omega arith) (λ e. omega arith)
