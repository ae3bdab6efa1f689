-- The promise leaves one answer: the words, the numbers and the buffer are given.
use Prim.Native.Nat.{ℕ}
use mathlib.Core.Path.{◌≡◌, sym, ◌∙◌}
use mathlib.Core.List.{List}
use Rattle.session_rules.specs.Session.{take_of, buffer_of}
use Rattle.one_call.specs.Words.{session_in, answered_in}

module _ (w m b t x y : List ℕ) (room : ℕ) where
  pub words-unique : x ≡ answered_in (take_of (session_in w m) room t) → y ≡ answered_in (take_of (session_in w m) room t) → x ≡ y
  words-unique p q = p ∙ sym q

  pub numbers-unique : x ≡ (take_of (session_in w m) room t).session.numbers → y ≡ (take_of (session_in w m) room t).session.numbers → x ≡ y
  numbers-unique p q = p ∙ sym q

  pub buffer-unique : x ≡ buffer_of (session_in w m) b t → y ≡ buffer_of (session_in w m) b t → x ≡ y
  buffer-unique p q = p ∙ sym q
