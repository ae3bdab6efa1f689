use mathlib.Core.Path.{refl}
use Rattle.places.proofs.Branches.{one-read, all_read}
use borrow.Author.Rules.{rules}
use Rattle.places.proofs.numbers_of.Goals as goal

pub loop-k-init : goal.loop-k-init
loop-k-init c = (search rules, refl)

pub loop-k-preserved : goal.loop-k-preserved
loop-k-preserved c = search one-read

pub returns : goal.returns
returns c = search all_read
