use Rattle.control_rules.proofs.Subtypes.{entity-in, entity-below, entity-above}
use native.Mathlib.Omega.{arith}
use Rattle.control_rules.proofs.is_entity.Goals as goal

pub returns-in-2-to-7 : goal.returns-in-2-to-7
returns-in-2-to-7 c = entity-in _ (omega arith) (omega arith)

pub returns-in_default : goal.returns-in_default
returns-in_default c = search entity-below

pub returns-in_default-2 : goal.returns-in_default-2
returns-in_default-2 c = search entity-above
