-- The promise leaves one answer and one content of the room.
use Prim.Native.Nat.{ℕ}
use mathlib.Core.Path.{◌≡◌, sym, ◌∙◌}
use mathlib.Core.List.{List}
use Rattle.host_words.specs.Words.{length_in, left_in}

pub words-unique : (n : ℕ) (room : List ℕ) (r t : ℕ) (x y : List ℕ)
    → r ≡ length_in n room → x ≡ left_in n room → t ≡ length_in n room → y ≡ left_in n room → (r ≡ t) × (x ≡ y)
words-unique n room r t x y a b c d = (a ∙ sym c, b ∙ sym d)
