-- Each promise leaves one answer and one content of the lent buffer: it says which.
use Prim.Native.Nat.{ℕ}
use mathlib.Core.Path.{◌≡◌, sym, ◌∙◌}
use mathlib.Core.List.{List}
use Rattle.text.specs.Written.{answer_of, buffer_of}
use Rattle.configuration.specs.declared.Configuration.{Configuration}
use Rattle.picking.specs.declared.Picked.{Picked}
use Rattle.configuration_text.specs.Texts.{configuration_text, picked_text, room}

-- answer and buffer of any text
unique : (t old : List ℕ) (x y : ℕ) (a b : List ℕ) → x ≡ answer_of room t old → a ≡ buffer_of room t old → y ≡ answer_of room t old → b ≡ buffer_of room t old → (x ≡ y) × (a ≡ b)
unique t old x y a b p q r z = (p ∙ sym r, q ∙ sym z)

pub configuration-unique : (s : List ℕ) (c : Configuration) (old : List ℕ) (x y : ℕ) (a b : List ℕ)
    → x ≡ answer_of room (configuration_text s c) old → a ≡ buffer_of room (configuration_text s c) old → y ≡ answer_of room (configuration_text s c) old → b ≡ buffer_of room (configuration_text s c) old
    → (x ≡ y) × (a ≡ b)
configuration-unique s c = unique (configuration_text s c)

pub picked-unique : (p : Picked) (old : List ℕ) (x y : ℕ) (a b : List ℕ)
    → x ≡ answer_of room (picked_text p) old → a ≡ buffer_of room (picked_text p) old → y ≡ answer_of room (picked_text p) old → b ≡ buffer_of room (picked_text p) old → (x ≡ y) × (a ≡ b)
picked-unique p = unique (picked_text p)
