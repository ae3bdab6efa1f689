-- Names have at most 40 bytes, and a line for each bit.
use mathlib.Core.Path.{◌≡◌, refl, ◌∙◌}
use mathlib.Core.Bool.{Bool, true, false, ◌&&◌}
use mathlib.Core.List.{List, [], ◌∷◌, ◌++◌}
use Prim.Native.Nat.{ℕ, zero, suc, ◌+◌, ◌-◌, ◌*◌, ◌/◌, ◌%◌, ◌^◌, ◌≤◌, ◌<◌}
use borrow.Author.Tests.{lt-leb}
use Rattle.le.specs.Le.{byte}
use Rattle.rules.specs.IfElse.{if_else}
use native.Mathlib.Numerals.{add-one}
use native.Mathlib.Omega.{arith}
use lib.Dec.{T, leb, leb→le, eqb}
use lib.ListN.{length, length-append, get_or}
use Rattle.text.specs.Put.{Put}
use Rattle.text.specs.Text.{bytes, line}
use Rattle.text.proofs.Puts.{then}
use Rattle.text.proofs.Texts.{none}
use Rattle.text.proofs.Computed.{below}
use Rattle.rules.proofs.Places.{first-place}
use Rattle.name_tables.specs.Tables.{name_at}
use Rattle.templates.proofs.Going.{Going, begin, more, over}
use Rattle.camera_names.specs.Inner.{are_short, Short}
use Rattle.camera_names.specs.Names.{is_set, control_text, controls_text, terminal_place, terminal_types, terminal_names, terminal_text}

-- ---- names are short
and_left : (a b : Bool) → T (a && b) → T a
and_left true b t = tt
and_left false b t = t

and_right : (a b : Bool) → T (a && b) → T b
and_right true b t = t
and_right false b t = absurd t

short-from : (t : List ℕ) (n i j : ℕ) → T (are_short t n i) → j < n → length (name_at (i + j) t) ≤ 40
short-from t zero i j w h = absurd (omega arith)
short-from t (suc n) i zero w h =
    let e : i + 0 ≡ i = omega arith in
    rw e (leb→le (length (name_at i t)) 40 (and_left (leb (length (name_at i t)) 40) (are_short t n (suc i)) w))
short-from t (suc n) i (suc j) w h =
    let e : i + suc j ≡ suc i + j = omega arith in
    rw e (short-from t n (suc i) j (and_right (leb (length (name_at i t)) 40) (are_short t n (suc i)) w) (omega arith))

short : (t : List ℕ) (i : ℕ) → Short t → i < 24 → length (name_at i t) ≤ 40
short t i w h = let e : 0 + i ≡ i = omega arith in rw e at (short-from t 24 0 i w.each h)

-- ---- a control's line
pub line-room : (t : List ℕ) (i at m : ℕ) → Short t → i < 24 → at + 41 ≤ m → at + length (name_at i t) + 21 * 0 + 1 ≤ m
line-room t i at m w h r = omega (arith, short t i w h)

pub clear : (t : List ℕ) (i at : ℕ) (old : List ℕ) (b : Bool) → b ≡ false → at ≤ length old → Put old at (control_text t i b) at old × (at ≤ at + 64)
clear t i at old b e h = (rw e (none old at h), omega arith)

pub named : (t : List ℕ) (i : ℕ) (b : Bool) {old mid new : List ℕ} {at m r : ℕ} → b ≡ true → Short t → i < 24 → Put old at (bytes "      ") m mid → Put mid m (line (name_at i t) []) r new
    → Put old at (control_text t i b) r new × (r ≤ at + 64)
named t i b e w h p q = (rw e (then p q), omega (arith, p.next, q.next, length-append (name_at i t) (10 ∷ []), short t i w h))

-- ---- all bits: i of 24 are done
pub record Bitwise (s : List ℕ) (o k n : ℕ) (t old : List ℕ) (start at i : ℕ) (buf : List ℕ) : Type 0 where
  pub within : i ≤ 24
  pub room : at ≤ start + 64 * i
  pub size : length buf ≡ length old
  pub going : Going old start (controls_text s o k n t 24 0) at buf (controls_text s o k n t (24 - i) i)

pub first_bit : (s : List ℕ) (o k n : ℕ) (t old : List ℕ) (start : ℕ) → start ≤ length old → Bitwise s o k n t old start start 0 old
first_bit s o k n t old start h = record { within = omega arith; room = omega arith; size = refl; going = begin old start (controls_text s o k n t 24 0) h }

one_bit : (s : List ℕ) (o k n : ℕ) (t : List ℕ) (left m i : ℕ) → left ≡ suc m → controls_text s o k n t left i ≡ control_text t i (is_set s o k n i) ++ controls_text s o k n t m (suc i)
unfolding controls_text
one_bit s o k n t left m i e = rw e

no-bit : (s : List ℕ) (o k n : ℕ) (t : List ℕ) (left i : ℕ) → left ≡ 0 → controls_text s o k n t left i ≡ []
unfolding controls_text
no-bit s o k n t left i e = rw e

module _ {s : List ℕ} {o k n : ℕ} {t old : List ℕ} {start at i : ℕ} {buf : List ℕ} where
  pub next_bit : (b : Bool) {r : ℕ} {new : List ℕ} → Bitwise s o k n t old start at i buf → i < 24 → b ≡ is_set s o k n i → Put buf at (control_text t i b) r new → r ≤ at + 64
      → Bitwise s o k n t old start r (i + 1) new
  next_bit b p h e q m =
      record {
        within = omega arith;
        room = omega (arith, p.room);
        size = q.size ∙ p.size;
        going =
            rw (add-one i)
            (more (control_text t i b) (controls_text s o k n t (24 - suc i) (suc i)) (rw e (one_bit s o k n t (24 - i) (24 - suc i) i (omega arith))) p.going q);
      }

  pub all-bits : Bitwise s o k n t old start at i buf → 24 ≤ i → Put old start (controls_text s o k n t 24 0) at buf × (at ≤ start + 1536)
  all-bits p h = (over (no-bit s o k n t (24 - i) i (omega arith)) p.going, omega (arith, p.room, p.within))

-- ---- a terminal type's line
terminal-short : (i : ℕ) → i < 13 → length (name_at i terminal_names) ≤ 40
terminal-short i h = leb→le (length (name_at i terminal_names)) 40 (below (λ j. leb (length (name_at j terminal_names)) 40) 13 tt i h)

place-low : (n : ℕ) → terminal_place n < 13
unfolding terminal_place
place-low n = omega (arith, (first-place (λ i. eqb (get_or terminal_types i 0) n) 12).within)

pub terminal-room : (n p at m : ℕ) → p ≡ terminal_place n → at + 48 ≤ m → at + length (name_at p terminal_names) + 21 * 0 + 1 ≤ m
terminal-room n p at m e h = omega (arith, terminal-short p (rw e (place-low n)))

pub terminal-put : (n p : ℕ) {old new : List ℕ} {at r : ℕ} → p ≡ terminal_place n → Put old at (line (name_at p terminal_names) []) r new → Put old at (terminal_text n) r new × (r ≤ at + 48)
unfolding terminal_text
terminal-put n p e q = (rw (← e) q, omega (arith, q.next, length-append (name_at p terminal_names) (10 ∷ []), terminal-short p (rw e (place-low n))))

-- ---- a bit of the map
pub bit_is : (s : List ℕ) (o k n i b : ℕ) → i / 8 < n → b ≡ byte s o (k + i / 8) → eqb (b / 2 ^ (i % 8) % 2) 1 ≡ is_set s o k n i
unfolding is_set if_else
bit_is s o k n i b h e = rw (lt-leb n (i / 8) h, e)
