-- Each promise leaves one answer, and one content of the lent record.
use Rattle.rules.specs.Verdicts.{Verdict}
use Prim.Native.Nat.{ℕ}
use mathlib.Core.Path.{◌≡◌, sym, ◌∙◌}
use mathlib.Core.Bool.{Bool}
use mathlib.Core.List.{List}
use Rattle.places.specs.declared.Held.{Held}
use Rattle.places.specs.Places.{record_of, numbers_in, broken54, held_of, write_verdict, written}

pub broken-unique : (r : List ℕ) (x y : Bool) → x ≡ broken54 r → y ≡ broken54 r → x ≡ y
broken-unique r x y p q = p ∙ sym q

pub read-unique : (r : List ℕ) (x y : Held) → x ≡ held_of r → y ≡ held_of r → x ≡ y
read-unique r x y p q = p ∙ sym q

pub numbers-unique : (r ns ms : List ℕ) → ns ≡ numbers_in r → ms ≡ numbers_in r → ns ≡ ms
numbers-unique r ns ms p q = p ∙ sym q

pub lay-unique : (ns r s : List ℕ) → r ≡ record_of ns → s ≡ record_of ns → r ≡ s
lay-unique ns r s p q = p ∙ sym q

pub write-unique : (r ns : List ℕ) (x y : Verdict) (s u : List ℕ) → x ≡ write_verdict r → y ≡ write_verdict r → s ≡ written r ns → u ≡ written r ns → (x ≡ y) × (s ≡ u)
write-unique r ns x y s u p q e f = (p ∙ sym q, e ∙ sym f)
