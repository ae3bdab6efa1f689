-- The fields that are read of a descriptor that has its kind's shape lie within it.
use Prim.Native.Nat.{ℕ, ◌+◌, ◌≤◌}
use mathlib.Core.Path.{◌≡◌, sym, ◌∙◌}
use mathlib.Core.List.{List}
use mathlib.Core.Bool.{true}
use lib.ListN.{get_or}
use lib.Dec.{leb, eqb}
use borrow.Author.Tests.{leb-true, eqb-true, eq-eqb}
use native.Mathlib.Omega.{arith}
use Rattle.le.specs.Le.{byte, le16_at}
use Rattle.rules.specs.IfElse.{if_else}
use Rattle.rules.proofs.Rows.{and_first, and_second}
use Rattle.entities.specs.Revisions.{says_of}
use Rattle.entities.specs.declared.Revision.{Revision}
use Rattle.entities.specs.declared.Revision.TheVariants.{R10, R11, R15}
use Rattle.control_rules.specs.Descriptors.{Kind, header, input, output, selector, processing, extension, encoding, unknown, revision_of, len_at, camera, shape, fixed_at, counted_at, sized_at, input_at, extension_at, terminal_of, source_count, source_place, ControlsAt, ControlsAt.camera-terminal, ControlsAt.processing-unit, Shaped}

fixed-long : (s : List ℕ) (o size k : ℕ) → fixed_at s o size k ≡ true → len_at s o ≡ size
unfolding fixed_at
fixed-long s o size k h = eqb-true (len_at s o) size (and_first (eqb (len_at s o) size) (eqb (byte s o k) 3) h)

-- a camera terminal or a processing unit has its length and a control size that its revision allows
pub record Sized (v : Revision) (s : List ℕ) (o base k : ℕ) : Type 0 where
  pub long : len_at s o ≡ base + byte s o k
  pub least : (says_of v).least ≤ byte s o k
  pub most : byte s o k ≤ (says_of v).most

pub sized : (v : Revision) (s : List ℕ) (o base k : ℕ) → sized_at v s o base k ≡ true → Sized v s o base k
unfolding sized_at counted_at
sized v s o base k h =
    let n = and_second (eqb (len_at s o) (base + byte s o k)) _ h in
    record {
      long = eqb-true (len_at s o) (base + byte s o k) (and_first (eqb (len_at s o) (base + byte s o k)) _ h);
      least = leb-true (says_of v).least (byte s o k) (and_first (leb (says_of v).least (byte s o k)) _ n);
      most = leb-true (byte s o k) (says_of v).most (and_second (leb (says_of v).least (byte s o k)) _ n);
    }

-- no revision allows over 32
pub most-32 : (v : Revision) → (says_of v).most ≤ 32
unfolding says_of
most-32 R10 = omega arith
most-32 R11 = omega arith
most-32 R15 = omega arith

-- the controls stand behind the control size, and before the end
pub unit-base : (v : Revision) → 9 ≤ (says_of v).unit
unfolding says_of
unit-base R10 = omega arith
unit-base R11 = omega arith
unit-base R15 = omega arith

pub camera-base : (v : Revision) → 15 ≤ (says_of v).camera
unfolding says_of
camera-base R10 = omega arith
camera-base R11 = omega arith
camera-base R15 = omega arith

pub unit-sized : (s : List ℕ) (o : ℕ) → Shaped processing s o → Sized (revision_of s) s o (says_of (revision_of s)).unit 7
unfolding shape
unit-sized s o w = sized (revision_of s) s o (says_of (revision_of s)).unit 7 w.right

pub camera-sized : (s : List ℕ) (o : ℕ) → Shaped input s o → le16_at s (o + 4) ≡ camera → Sized (revision_of s) s o (says_of (revision_of s)).camera 14
unfolding shape input_at if_else
camera-sized s o w e =
    sized (revision_of s) s o (says_of (revision_of s)).camera 14
    (rw (eq-eqb (le16_at s (o + 4)) camera e) at (and_second (leb 8 (len_at s o)) _ w.right))

-- every source of a descriptor
pub sources-within : (k : Kind) (s : List ℕ) (o : ℕ) → Shaped k s o → source_place k + source_count k s o ≤ len_at s o
unfolding shape counted_at extension_at source_place source_count
sources-within header s o w = omega arith
sources-within input s o w = omega arith
sources-within output s o w = omega (arith, leb-true 9 (len_at s o) w.right)
sources-within selector s o w = omega (arith, eqb-true (len_at s o) (6 + byte s o 4) w.right)
sources-within processing s o w = omega (arith, (unit-sized s o w).long, unit-base (revision_of s))
sources-within extension s o w = omega (arith, eqb-true (len_at s o) (24 + byte s o 21 + get_or s (o + 22 + byte s o 21) 0) w.right)
sources-within encoding s o w = omega (arith, fixed-long s o 13 6 w.right)
sources-within unknown s o w = omega arith

-- the controls of a camera terminal or a processing unit lie within its descriptor, and are at most 32
pub controls-within : {k : Kind} {t n : ℕ} → ControlsAt k t n → (s : List ℕ) (o : ℕ) → Shaped k s o → t ≡ terminal_of k s o
    → (n + 1 + byte s o n ≤ len_at s o) × (byte s o n ≤ 32)
unfolding terminal_of
controls-within (camera-terminal t e) s o w q =
    let z = camera-sized s o w (sym q ∙ e) in
    (omega (arith, z.long, camera-base (revision_of s)), omega (arith, z.most, most-32 (revision_of s)))
controls-within (processing-unit t) s o w q =
    let z = unit-sized s o w in
    (omega (arith, z.long, unit-base (revision_of s)), omega (arith, z.most, most-32 (revision_of s)))
