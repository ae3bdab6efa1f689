-- The promises of the crate leave one answer and one content of the room.
use Rattle.rules.specs.Verdicts.{Verdict}
use Prim.Native.Nat.{ℕ}
use mathlib.Core.Path.{◌≡◌, refl, sym, ◌∙◌}
use mathlib.Core.List.{List}
use Rattle.packets.specs.Packets.{room_verdict, leaves, SpeltIs, SpeltIs.spelt, SpeltIs.by-95}
use Rattle.packets.specs.declared.Reading.{Reading}
use Rattle.packets.proofs.Spelling.{packet-different}

pub spelt-unique : (interface : ℕ) (bytes : List ℕ) {r t : Reading} → SpeltIs interface bytes r → SpeltIs interface bytes t → r ≡ t
spelt-unique interface bytes (spelt u c q e) (spelt v d p f) =
    let z = packet-different interface u v c d q p (sym e ∙ f) in rw (z.0, z.1, z.2)
spelt-unique interface bytes (spelt u c q e) (by-95 f) = absurd (f u c q e)
spelt-unique interface bytes (by-95 f) (spelt v d p e) = absurd (f v d p e)
spelt-unique interface bytes (by-95 e) (by-95 f) = refl

-- the verdict and the room that `write` leaves
pub write-unique : (packet room : List ℕ) (v w : Verdict) (x y : List ℕ)
    → v ≡ room_verdict room → x ≡ leaves v packet room → w ≡ room_verdict room → y ≡ leaves w packet room → (v ≡ w) × (x ≡ y)
write-unique packet room v w x y a b c d = let e : v ≡ w = a ∙ sym c in (e, rw (b, d, e))
