-- What the tests of 45 and 46 say, and what a size that breaks neither is.
use Prim.Native.Nat.{ℕ, ◌≤◌}
use mathlib.Core.Path.{◌≡◌}
use mathlib.Core.Bool.{false}
use native.Mathlib.Omega.{arith}
use lib.Dec.{eqb, ltb}
use borrow.Author.Tests.{eqb-false, ltb-false}
use Rattle.rules.proofs.Rows.{or-first, or-second}
use Rattle.sizes.specs.Sizes.{frame_most, payload_least, payload_most, frame_size_broken, payload_size_broken, Between}

not-zero : (n : ℕ) → (n ≡ 0 → ⊥) → 1 ≤ n
not-zero n h = omega arith

-- a size that is not refused lies within its limits
pub frame-sound : (n : ℕ) → frame_size_broken n ≡ false → Between 1 n frame_most
unfolding frame_size_broken
frame-sound n h =
    record { low = not-zero n (eqb-false n 0 (or-first _ _ h)); high = ltb-false frame_most n (or-second (eqb n 0) _ h) }

pub payload-sound : (n : ℕ) → payload_size_broken n ≡ false → Between payload_least n payload_most
unfolding payload_size_broken
payload-sound n h =
    record { low = ltb-false n payload_least (or-first _ _ h); high = ltb-false payload_most n (or-second (ltb n payload_least) _ h) }
