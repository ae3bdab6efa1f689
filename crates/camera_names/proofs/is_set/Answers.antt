use Rattle.camera_names.proofs.Bits.{bit_is}
use Rattle.rules.specs.IfElse.{if_elses}
use Rattle.camera_names.specs.Names.{is_set}
use Rattle.camera_names.proofs.is_set.Goals as goal

pub returns-then-n-i : goal.returns-then-n-i
unfolding is_set
returns-then-n-i c = search if_elses depth 8

pub returns : goal.returns
returns c = bit_is _ _ _ _ _ _ c.if-n-i.false c.byte_of-b.ensures
