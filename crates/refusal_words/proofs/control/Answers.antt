use native.Mathlib.Omega.{arith}
use Rattle.refusal_words.specs.Words.{words_of}
use Rattle.refusal_words.proofs.Right.{row-right}
use Rattle.refusal_words.proofs.control.Goals as goal

pub said-requires : goal.said-requires
unfolding words_of
said-requires c = (omega arith, omega arith, row-right 1 16 _ _ (omega arith) (omega arith) tt)
