use mathlib.Core.Path.{sym}
use lib.Seq.{set_out}
use native.Mathlib.Omega.{arith}
use Rattle.entities.proofs.with_place.Goals as goal

pub returns-else-i-lt-ENTITIES_MOST : goal.returns-else-i-lt-ENTITIES_MOST
returns-else-i-lt-ENTITIES_MOST c = sym (set_out _ _ _ (omega arith))
