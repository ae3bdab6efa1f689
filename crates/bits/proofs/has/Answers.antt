use borrow.Author.Rules.{rules}
use Rattle.bits.specs.Bits.{bit_of}
use Rattle.bits.proofs.has.Goals as goal

pub returns : goal.returns
unfolding bit_of
returns c = search rules
