-- What every row of the table of layouts has, and the flags of each.
use Prim.Native.Nat.{ℕ, ◌+◌, ◌*◌, ◌≤◌}
use mathlib.Core.Path.{◌≡◌}
use mathlib.Core.List.{List}
use native.Mathlib.Omega.{arith}
use lib.ListN.{get_or}
use Rattle.le.specs.Le.{le16_at}
use Rattle.sizes.specs.declared.HeaderKind.{HeaderKind}
use Rattle.sizes.specs.declared.HeaderKind.TheVariants.{Old, Vp8}
use Rattle.session_rules.specs.declared.Layout.{Layout}
use Rattle.session_rules.specs.Layouts.{header_layout, Laid}
use Rattle.session_rules.specs.Transfer.{flags_at}

pub laid : (k : HeaderKind) → Laid (header_layout k)
unfolding header_layout
laid Old = record { low = omega arith; high = omega arith; even = λ e. omega arith; bit = omega arith }
laid Vp8 = record { low = omega arith; high = omega arith; even = λ e. omega arith; bit = omega arith }

-- not of two bytes: of four
pub least-four : (l : Layout) → Laid l → (l.least ≡ 2 → ⊥) → l.least ≡ 4
least-four l d n = go l.least d.low d.high d.even n
  where
    go : (k : ℕ) → 2 ≤ k → k ≤ 4 → (k ≡ 3 → ⊥) → (k ≡ 2 → ⊥) → k ≡ 4
    go k a b e n = omega arith

-- one flag byte, or three
pub flags-one : (l : Layout) (t : List ℕ) → l.least ≡ 2 → get_or t 1 0 ≡ flags_at l t
flags-one l t e = rw e (omega arith)

pub flags-three : (l : Layout) (t : List ℕ) (high : ℕ) → l.least ≡ 4 → high ≡ le16_at t 2 → get_or t 1 0 + high * 256 ≡ flags_at l t
flags-three l t high e h = rw (e, h) (omega arith)
