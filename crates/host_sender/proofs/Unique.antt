-- The promise of each function leaves one answer, and one content of what is lent.
use Rattle.session_rules.specs.Options.{Stamp}
use Prim.Native.Nat.{ℕ}
use mathlib.Core.Path.{◌≡◌, sym, ◌∙◌}
use mathlib.Core.List.{List}
use Rattle.sender.specs.Send.{new_sender}
use Rattle.host_sender.specs.Words.{words_of, sent_told, words_left, room_left, next_told, next_left}
use Rattle.host_sender.specs.declared.SentTold.{SentTold}

pub open-unique : (x y : List ℕ) → x ≡ words_of new_sender → y ≡ words_of new_sender → x ≡ y
open-unique x y a b = a ∙ sym b

pub next-unique : (w : List ℕ) (r t : ℕ) (x y : List ℕ) → r ≡ next_told w → x ≡ next_left w → t ≡ next_told w → y ≡ next_left w → (r ≡ t) × (x ≡ y)
next-unique w r t x y a b c d = (a ∙ sym c, b ∙ sym d)

module _ (w frame : List ℕ) (payload : ℕ) (s : Stamp) (room : List ℕ) where
  pub send-unique : (r t : SentTold) (x y left kept : List ℕ)
      → r ≡ sent_told w frame payload s room → x ≡ words_left w frame payload s room → left ≡ room_left w frame payload s room
      → t ≡ sent_told w frame payload s room → y ≡ words_left w frame payload s room → kept ≡ room_left w frame payload s room
      → (r ≡ t) × (x ≡ y) × (left ≡ kept)
  send-unique r t x y left kept a b c d e f = (a ∙ sym d, b ∙ sym e, c ∙ sym f)
