-- A job over several turns of the clock.
use Prim.Native.Nat.{ℕ, ◌+◌, ◌-◌, ◌*◌, ◌/◌, ◌≤◌, ◌<◌, ◌^◌}
use mathlib.Core.Path.{◌≡◌, refl}
use mathlib.Core.Bool.{Bool, true, false, cond}
use mathlib.Core.List.{List, [], ◌∷◌}
use native.Mathlib.Omega.{arith}
use lib.Dec.{ltb}
use borrow.Author.Tests.{lt-ltb}
use lib.IntN.{pos}
use Rattle.books.specs.Rule.{step, forward, back, between}
use Rattle.steps.specs.Signed.{signed, Stamps, last_stamp}
use Rattle.steps.specs.Turns.{OverTurns, stamp_at, Follows, InFull, Turns}
use Rattle.integers.proofs.Integers.{is_pos}
use Rattle.steps.proofs.Steps.{leads, modulo}

-- ---- every step is forward: the last stamp is the first, that many ticks on, but for turns of the clock
record Reached (a last ticks : ℕ) : Type 0 where
  below : last < 2 ^ 32
  k : ℕ
  turns : a + ticks ≡ last + k * 2 ^ 32

one-step : (a b : ℕ) → a < 2 ^ 32 → b < 2 ^ 32 → back a b ≡ 0 → Reached a b (forward a b)
one-step a b h m = go (ltb (step a b) (2 ^ 31))
  where
    go : (t : Bool) → ◌≡◌ {A = ℕ} (cond t 0 1) 0 → Reached a b (cond t (step a b) 0)
    go true e = record { below = m; k = (a + step a b) / 2 ^ 32; turns = omega arith }
    go false e = absurd (omega arith)

reached : (a : ℕ) (bs : List ℕ) → Stamps (a ∷ bs) → between back (a ∷ bs) ≡ 0 → Reached a (last_stamp a bs) (between forward (a ∷ bs))
reached a [] (h, _) e = record { below = h; k = 0; turns = omega arith }
reached a (b ∷ bs) (h, (m, r)) e =
    let x = one-step a b h m (omega arith) in
    let y = reached b bs (m, r) (omega arith) in
    record { below = y.below; k = x.k + y.k; turns = omega (arith, x.turns, y.turns) }

over-turns : (a : ℕ) (bs : List ℕ) → Stamps (a ∷ bs) → between back (a ∷ bs) ≡ 0 → OverTurns a bs
over-turns a bs h e =
    let r = reached a bs h e in
    let l = leads a (last_stamp a bs) h.0 r.below in
    record {
      turns = between forward (a ∷ bs) / 2 ^ 32;
      ticks = single (between forward (a ∷ bs)) (last_stamp a bs) r.k h.0 r.below r.turns;
      as-signed =
          modulo (pos (between forward (a ∷ bs))) (signed a (last_stamp a bs)) (between forward (a ∷ bs)) 0 l.p l.q l.v (r.k + l.u) (is_pos _) l.is
          (omega (arith, r.turns, l.turns));
    }
  where
    single : (n last k : ℕ) → a < 2 ^ 32 → last < 2 ^ 32 → a + n ≡ last + k * 2 ^ 32 → n ≡ step a last + n / 2 ^ 32 * 2 ^ 32
    single n last k p q t = omega arith

-- ---- a clock that never turns over
passed : (t u : ℕ) → t ≤ u → u < t + 2 ^ 31 → step (stamp_at t) (stamp_at u) ≡ u - t
passed t u h k = omega arith

module _ (t u : ℕ) (h : t ≤ u) (k : u < t + 2 ^ 31) where
  ahead : ltb (step (stamp_at t) (stamp_at u)) (2 ^ 31) ≡ true
  ahead = lt-ltb (step (stamp_at t) (stamp_at u)) (2 ^ 31) (omega (arith, passed t u h k))

  forward-passed : t + forward (stamp_at t) (stamp_at u) ≡ u
  forward-passed = rw ahead (omega (arith, passed t u h k))

  never_back : back (stamp_at t) (stamp_at u) ≡ 0
  never_back = rw ahead refl

in-full : (t : ℕ) (us : List ℕ) → Follows t us → InFull t us
in-full t [] f = record { ticks = omega arith; backward = refl }
in-full t (u ∷ us) f =
    let r = in-full u us f.2 in
    record {
      ticks = omega (arith, forward-passed t u f.0 f.1, r.ticks);
      backward = omega (arith, never_back t u f.0 f.1, r.backward);
    }

pub turns : Turns
turns = record { over-turns = over-turns; in-full = in-full }
