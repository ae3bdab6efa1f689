use mathlib.Core.Path.{refl}
use native.Mathlib.Omega.{arith}
use Rattle.long_records.proofs.Parts.{record-put}
use Rattle.long_records.proofs.write.Goals as goal

pub returns : goal.returns
returns c = record-put refl (omega arith) (omega arith) c.put-headed.ensures c.put-told.ensures c.clear.ensures
