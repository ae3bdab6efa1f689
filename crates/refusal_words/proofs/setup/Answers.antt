use native.Mathlib.Omega.{arith}
use Rattle.refusal_words.specs.Words.{words_of}
use Rattle.refusal_words.proofs.Right.{row-right}
use Rattle.refusal_words.proofs.setup.Goals as goal

pub said-requires : goal.said-requires
unfolding words_of
said-requires c = (omega arith, omega arith, row-right 90 6 _ _ (omega arith) (omega arith) tt)
