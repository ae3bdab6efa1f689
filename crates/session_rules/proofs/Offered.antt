-- A call that counts is an offer of the histories: that of a buffer with so much room. What holds of any offers holds of it.
use Prim.Native.Nat.{ℕ}
use mathlib.Core.Path.{◌≡◌, sym, ap, ◌∙◌}
use mathlib.Core.List.{List}
use lib.ListN.{length, replicate, length-replicate}
use Rattle.session_rules.specs.declared.Session.{Session}
use Rattle.session_rules.specs.declared.Taken.{Taken}
use Rattle.session_rules.specs.Session.{take_of}
use Rattle.session_rules.specs.Calls.{Offer, next}

abbrev zeros : ℕ → List ℕ
zeros room = replicate room 0

-- x is what counting answers
pub counted-as-offered : (room : ℕ) → (buffer : List ℕ) × ((length buffer ≡ room) ×
    ((s : Session) (t : List ℕ) (x : Taken) → x ≡ take_of s room t → (x ≡ take_of s (length buffer) t) × (x.session ≡ next s (Offer.take buffer t))))
counted-as-offered room = (zeros room, (long, λ s t x e. (with_it s t x e, ap (λ (y : Taken). y.session) (with_it s t x e))))
  where
    long : length (zeros room) ≡ room
    long = length-replicate room 0

    with_it : (s : Session) (t : List ℕ) (x : Taken) → x ≡ take_of s room t → x ≡ take_of s (length (zeros room)) t
    with_it s t x e = e ∙ ap (λ (n : ℕ). take_of s n t) (sym long)
