-- The contract of the whole text: what it says of the buffer's front, and that it leaves no choice.
use mathlib.Core.Path.{◌≡◌, refl, sym, ap, ◌∙◌}
use mathlib.Core.List.{List, ◌++◌}
use Prim.Native.Nat.{ℕ, ◌≤◌, ◌<◌}
use native.Mathlib.Nat.{zero-add}
use native.Mathlib.Omega.{arith}
use borrow.Author.Tests.{lt-ltb, le-ltb}
use lib.ListN.{length, take, drop}
use lib.Seq.{take-length, take-append_seam, drop-append_seam}
use Rattle.io.specs.Counts.{IsPrefixLen}
use Rattle.text.specs.Put.{Put}
use Rattle.text.specs.Written.{answer_of, buffer_of}

pub short : (room : ℕ) (t old : List ℕ) → length old < room → (0 ≡ answer_of room t old) × ((old ≡ buffer_of room t old) × IsPrefixLen 0 old)
short room t old h = (rw (lt-ltb (length old) room h), (rw (lt-ltb (length old) room h), (omega arith, refl)))

front : (t : List ℕ) {old new : List ℕ} {r : ℕ} → Put old 0 t r new → new ≡ t ++ drop (length t) old
front t p = p.bytes ∙ rw (take-length t, zero-add (length t))

pub whole : (room : ℕ) (t : List ℕ) {old new : List ℕ} {r : ℕ} → room ≤ length old → Put old 0 t r new → (r ≡ answer_of room t old) × ((new ≡ buffer_of room t old) × IsPrefixLen r new)
whole room t {old} {new} {r} h p =
    let size : r ≡ length t = p.next ∙ zero-add (length t) in
    let text : take r new ≡ t = rw (size, front t p) (take-append_seam t (drop (length t) old)) in
    (rw (le-ltb (length old) room h) size, (rw (le-ltb (length old) room h) (front t p), (omega (arith, p.fits, p.size), size ∙ ap length (sym text))))

-- WHAT THE PROMISE SAYS where the buffer is large enough: the first r bytes are the text, and the others are as they were
pub record Front (t old : List ℕ) (r : ℕ) (new : List ℕ) : Type 0 where
  pub size : r ≡ length t
  pub text : take r new ≡ t
  pub rest : drop r new ≡ drop r old

pub front_of : (room : ℕ) (t old : List ℕ) (r : ℕ) (new : List ℕ) → room ≤ length old → r ≡ answer_of room t old → new ≡ buffer_of room t old → Front t old r new
front_of room t old r new h a b =
    let size : r ≡ length t = rw (le-ltb (length old) room h) at a in
    let buffer : new ≡ t ++ drop (length t) old = rw (le-ltb (length old) room h) at b in
    record {
      size = size;
      text = rw (size, buffer) (take-append_seam t (drop (length t) old));
      rest = rw (size, buffer) (drop-append_seam t (drop (length t) old));
    }

-- it leaves no choice: of the answer and the buffer there is one of each
pub text-unique : (room : ℕ) (t old : List ℕ) (r₁ r₂ : ℕ) (new₁ new₂ : List ℕ) → r₁ ≡ answer_of room t old → new₁ ≡ buffer_of room t old → r₂ ≡ answer_of room t old → new₂ ≡ buffer_of room t old
    → (r₁ ≡ r₂) × (new₁ ≡ new₂)
text-unique room t old r₁ r₂ new₁ new₂ a b d e = (a ∙ sym d, b ∙ sym e)
