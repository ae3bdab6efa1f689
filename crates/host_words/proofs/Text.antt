-- THE WORDS OF EVERY NUMBER are a text of C: no byte of them is 0 but the one behind them.
use Prim.Native.Nat.{ℕ, ◌≤◌, ◌<◌}
use mathlib.Core.Path.{◌≡◌, refl}
use mathlib.Core.Bool.{Bool, true, false}
use lib.Dec.{T, ltb}
use borrow.Author.Tests.{ltb-true, ltb-false}
use Rattle.text.proofs.Computed.{below}
use Rattle.refusal_words.specs.Words.{words_of}
use Rattle.refusal_words.proofs.Right.{beyond, past}
use Rattle.host_words.specs.Words.{ended, is_text}

low : (n : ℕ) → n < beyond → T (is_text (ended (words_of n)))
unfolding words_of ended
low n h = below (λ i. is_text (ended (words_of i))) beyond tt n h

high : (n : ℕ) → beyond ≤ n → T (is_text (ended (words_of n)))
unfolding ended
high n h = rw (past n h) tt

pub text-of-c : (n : ℕ) → T (is_text (ended (words_of n)))
text-of-c n = by-test (ltb n beyond) refl
  where
    by-test : (b : Bool) → ltb n beyond ≡ b → T (is_text (ended (words_of n)))
    by-test true e = low n (ltb-true n beyond e)
    by-test false e = high n (ltb-false n beyond e)
