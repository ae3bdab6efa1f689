-- A job over several turns of the clock is billed in full. All is over the rule's own definitions (books/specs/Rule).
use Rattle.std.specs.Prelude.{ℕ, ◌+◌, ◌*◌, ◌%◌, ◌≤◌, ◌<◌, ◌^◌, ◌≡◌, List, [], ◌∷◌, map, pos}
use Rattle.books.specs.Rule.{step, forward, back, between}
use Rattle.steps.specs.Signed.{signed, Modulo, last_stamp, Stamps}

-- ticks is the single step from the first stamp to the last, and so many turns of the clock
pub record OverTurns (a : ℕ) (bs : List ℕ) : Type 0 where
  pub turns : ℕ
  pub ticks : between forward (a ∷ bs) ≡ step a (last_stamp a bs) + turns * 2 ^ 32
  pub as-signed : Modulo (pos (between forward (a ∷ bs))) (signed a (last_stamp a bs))

-- A clock that never turns over; a stamp is its count modulo 2^32.
abbrev pub stamp_at : ℕ → ℕ
stamp_at t = t % 2 ^ 32

-- each count is at or after the one before, by less than 2^31
abbrev pub Follows : ℕ → List ℕ → Type 0
Follows t [] = Unit
Follows t (u ∷ us) = (t ≤ u) × (u < t + 2 ^ 31) × Follows u us

-- ticks is all the time from the first count to the last, and nothing is backward
pub record InFull (t : ℕ) (us : List ℕ) : Type 0 where
  pub ticks : t + between forward (map stamp_at (t ∷ us)) ≡ last_stamp t us
  pub backward : between back (map stamp_at (t ∷ us)) ≡ 0

pub record Turns : Type 0 where
  -- where every step of a job is forward
  pub over-turns : (a : ℕ) (bs : List ℕ) → Stamps (a ∷ bs) → between back (a ∷ bs) ≡ 0 → OverTurns a bs
  pub in-full : (t : ℕ) (us : List ℕ) → Follows t us → InFull t us
