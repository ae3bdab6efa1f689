-- What a field shows, from what was put: one law for each form.
use mathlib.Core.Path.{◌≡◌}
use mathlib.Core.Bool.{Bool, true, false}
use mathlib.Core.List.{List, [], ◌∷◌}
use lib.ListN.{get_or}
use Rattle.rules.specs.IfElse.{if_else}
use Prim.Native.Nat.{ℕ, ◌+◌, ◌-◌, ◌*◌, ◌/◌, ◌%◌, ◌≤◌}
use native.Mathlib.Omega.{arith}
use Rattle.text.specs.Decimal.{decimal}
use Rattle.text.specs.Put.{Put}
use Rattle.text.proofs.Puts.{then}
use Rattle.templates.specs.declared.Form.{Form}
use Rattle.templates.specs.Template.{is_field, length_at, field_at, piece_at}
use Rattle.templates.specs.Values.{form_of, value_of, hex_digit, hex_text, shown, letter_text, hundredths, rate_text}

pub hex-put : (x a b : ℕ) {old new : List ℕ} {at r : ℕ} → a ≡ hex_digit (x / 16) → b ≡ hex_digit (x % 16) → Put old at (a ∷ b ∷ []) r new → Put old at (hex_text x) r new × (r ≤ at + 24)
hex-put x a b p q z = (rw (← p, ← q) z, omega (arith, z.next))

pub letter-put : (x a : ℕ) {old new : List ℕ} {at r : ℕ} → a ≡ shown x → Put old at (a ∷ []) r new → Put old at (letter_text x) r new × (r ≤ at + 24)
letter-put x a p z = (rw (← p) z, omega (arith, z.next))

pub rate-put : (n h : ℕ) {old mid new : List ℕ} {at m r : ℕ} → h ≡ hundredths n → Put old at (decimal (h / 100)) m mid → m ≤ at + 20
    → Put mid m (46 ∷ (48 + h / 10 % 10) ∷ (48 + h % 10) ∷ []) r new → Put old at (rate_text n) r new × (r ≤ at + 24)
rate-put n h p y b z = (rw (← p) (then y z), omega (arith, z.next))

pub number_put : (n m : ℕ) {old new : List ℕ} {at r : ℕ} → n ≡ m → Put old at (decimal n) r new → r ≤ at + 20 → Put old at (decimal m) r new × (r ≤ at + 24)
number_put n m p z b = (rw p at z, omega arith)

pub text-put : (f : ℕ → List ℕ) (n m : ℕ) {old new : List ℕ} {at r : ℕ} → n ≡ m → Put old at (f n) r new → r ≤ at + 24 → Put old at (f m) r new × (r ≤ at + 24)
text-put f n m p z b = (rw p at z, b)

-- a field, by its parts
pub field_put : (s : List ℕ) (o k : ℕ) (t : List ℕ) (i : ℕ) (f : Form) (a b : ℕ) {old new : List ℕ} {at r : ℕ} → f ≡ form_of (get_or t (i + 1) 0) → a ≡ get_or t (i + 2) 0 - 48 → b ≡ get_or t (i + 3) 0 - 48
    → Put old at (value_of f s o (k + (a * 10 + b))) r new → Put old at (field_at s o k t i) r new
unfolding field_at
field_put s o k t i f a b p q z y = rw (← p, ← q, ← z) y

-- a piece: a field, or a byte
pub as-field : (s : List ℕ) (o k : ℕ) (t : List ℕ) (i : ℕ) (b : Bool) {old new : List ℕ} {at r : ℕ} → b ≡ is_field t i → b ≡ true → Put old at (field_at s o k t i) r new → r ≤ at + 24
    → Put old at (piece_at s o k t i) r new × (r ≤ at + 6 * length_at t i)
unfolding piece_at length_at if_else
as-field s o k t i b p e y m = rw (← p, e) (y, m)

pub as_byte : (s : List ℕ) (o k : ℕ) (t : List ℕ) (i : ℕ) (b : Bool) {old new : List ℕ} {at r : ℕ} → b ≡ is_field t i → b ≡ false → Put old at (get_or t i 0 ∷ []) r new
    → Put old at (piece_at s o k t i) r new × (r ≤ at + 6 * length_at t i)
unfolding piece_at length_at if_else
as_byte s o k t i b p e y = rw (← p, e) (y, omega (arith, y.next))

-- and its room
pub field_room : (t : List ℕ) (i : ℕ) (b : Bool) (at m : ℕ) → b ≡ is_field t i → b ≡ true → at + 6 * length_at t i ≤ m → at + 24 ≤ m
unfolding length_at if_else
field_room t i b at m p e h = rw (← p, e) at h

pub byte-room : (t : List ℕ) (i : ℕ) (b : Bool) (at m : ℕ) → b ≡ is_field t i → b ≡ false → at + 6 * length_at t i ≤ m → at + 1 ≤ m
unfolding length_at if_else
byte-room t i b at m p e h =
    let w : at + 6 * 1 ≤ m = rw (← p, e) at h in
    omega arith
