-- The promise of each function leaves one answer, and one content of what is lent.
use Prim.Native.Nat.{ℕ}
use mathlib.Core.Path.{◌≡◌, sym, ◌∙◌}
use mathlib.Core.List.{List}
use Rattle.control.specs.declared.Control.{Control}
use Rattle.control.proofs.Unique as control
use Rattle.host_told.specs.declared.Told.{Told}
use Rattle.host_told.proofs.Unique.{from-unique}
use Rattle.host_probe.specs.Probe.{revision_in, read_told, read_left, write_told, write_left, check_under, CheckAnswer}

pub read-unique : (n : ℕ) (s w : List ℕ) (r t : Told) (x y : List ℕ)
    → r ≡ read_told (revision_in n) s → x ≡ read_left (revision_in n) s w → t ≡ read_told (revision_in n) s → y ≡ read_left (revision_in n) s w → (r ≡ t) × (x ≡ y)
read-unique n s w r t x y a b c d = (a ∙ sym c, b ∙ sym d)

pub write-unique : (n : ℕ) (w room : List ℕ) (r t : Told) (x y : List ℕ)
    → r ≡ write_told (revision_in n) w room → x ≡ write_left (revision_in n) w room → t ≡ write_told (revision_in n) w room → y ≡ write_left (revision_in n) w room → (r ≡ t) × (x ≡ y)
write-unique n w room r t x y a b c d = (a ∙ sym c, b ∙ sym d)

pub check-unique : (s t a : List ℕ) (x y : Told) → CheckAnswer s t a x → CheckAnswer s t a y → x ≡ y
check-unique s t a x y = from-unique (λ b d p q. control.read-unique s p q) (λ (c : Control). check_under c.verdict c.table t a) x y
