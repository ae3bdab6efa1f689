-- Each promise leaves one answer: it says which.
use Prim.Native.Nat.{ℕ, ◌+◌}
use mathlib.Core.Path.{◌≡◌, sym, ◌∙◌}
use mathlib.Core.List.{List}
use mathlib.Core.Bool.{Bool}
use lib.ListN.{get_or}
use Rattle.configuration_rules.specs.Descriptors.{after_at, is_sought, packet_bytes}
use Rattle.configuration_rules.specs.declared.Sought.{Sought}

pub byte-of-unique : (s : List ℕ) (o k x y : ℕ) → x ≡ get_or s (o + k) 0 → y ≡ get_or s (o + k) 0 → x ≡ y
byte-of-unique s o k x y p q = p ∙ sym q

pub after-unique : (s : List ℕ) (o x y : ℕ) → x ≡ after_at s o → y ≡ after_at s o → x ≡ y
after-unique s o x y p q = p ∙ sym q

pub is-sought-unique : (w : Sought) (s : List ℕ) (o : ℕ) (x y : Bool) → x ≡ is_sought w s o → y ≡ is_sought w s o → x ≡ y
is-sought-unique w s o x y p q = p ∙ sym q

pub packet-bytes-unique : (w x y : ℕ) → x ≡ packet_bytes w → y ≡ packet_bytes w → x ≡ y
packet-bytes-unique w x y p q = p ∙ sym q
