-- What a call writes to the lent buffer: new is old with the first len bytes of src from at on, and every other byte is what it was.
use Rattle.std.specs.Prelude.{ℕ, ◌+◌, ◌≤◌, ◌<◌, ◌≡◌, List, length, get_or}

pub record Wrote (old new src : List ℕ) (at len : ℕ) : Type 0 where
  pub inside : at + len ≤ length old
  pub enough : len ≤ length src
  pub same_length : length new ≡ length old
  pub written : (i : ℕ) → i < len → get_or new (at + i) 0 ≡ get_or src i 0
  pub before : (i : ℕ) → i < at → get_or new i 0 ≡ get_or old i 0
  pub after : (i : ℕ) → at + len ≤ i → get_or new i 0 ≡ get_or old i 0
