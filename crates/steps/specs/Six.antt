-- Document 02, "Six. Steps that add up", of stamps below 2^32. `signed a b` is the step from a to b.
use Rattle.std.specs.Prelude.{ℕ, ◌<◌, ◌^◌, ◌≡◌, List, ◌∷◌, ◌↔◌, pos, neg_ℤ, ◌+ℤ◌, ◌-ℤ◌, ◌≤ℤ◌, ◌<ℤ◌}
use Rattle.books.specs.Rule.{forward, back}
use Rattle.steps.specs.Signed.{signed, Stamps, last_stamp, along, lowest, InRange, Modulo}

-- the step is later minus earlier modulo 2^32, read from −2^31 to 2^31−1 (document 01, "Steps")
pub record Reads (a b : ℕ) : Type 0 where
  pub range : InRange (signed a b)
  pub difference : Modulo (signed a b) (pos b -ℤ pos a)

-- and the rule takes it so: zero or more adds to the ticks; negative adds 1 to backward and no ticks
pub record RuleTakes (a b : ℕ) : Type 0 where
  pub ticks : pos 0 ≤ℤ signed a b → (pos (forward a b) ≡ signed a b) × (back a b ≡ 0)
  pub backward : signed a b <ℤ pos 0 → (forward a b ≡ 0) × (back a b ≡ 1)

-- from a to c is from a to b plus from b to c: modulo 2^32 always, and exactly where the sum lies from −2^31 to 2^31−1
pub record AddsUp (a b c : ℕ) : Type 0 where
  pub always : Modulo (signed a c) (signed a b +ℤ signed b c)
  pub exactly : (signed a c ≡ signed a b +ℤ signed b c) ↔ InRange (signed a b +ℤ signed b c)

-- and so of any row of stamps: from the first to the last is all the steps along it
pub record AllAddUp (a : ℕ) (bs : List ℕ) : Type 0 where
  pub always : Modulo (signed a (last_stamp a bs)) (along a bs)
  pub exactly : (signed a (last_stamp a bs) ≡ along a bs) ↔ InRange (along a bs)

-- the step back is the negative, except at −2^31, which is its own
pub record Returns (a b : ℕ) : Type 0 where
  pub negative : (signed a b ≡ lowest → ⊥) → signed b a ≡ neg_ℤ (signed a b)
  pub its_own : signed a b ≡ lowest → signed b a ≡ lowest

pub record Six : Type 0 where
  pub reads : (a b : ℕ) → a < 2 ^ 32 → b < 2 ^ 32 → Reads a b
  pub rule-takes : (a b : ℕ) → RuleTakes a b
  pub adds-up : (a b c : ℕ) → a < 2 ^ 32 → b < 2 ^ 32 → c < 2 ^ 32 → AddsUp a b c
  pub all-add-up : (a : ℕ) (bs : List ℕ) → Stamps (a ∷ bs) → AllAddUp a bs
  -- the step from a to itself is 0
  pub to-itself : (a : ℕ) → a < 2 ^ 32 → signed a a ≡ pos 0
  pub returns : (a b : ℕ) → a < 2 ^ 32 → b < 2 ^ 32 → Returns a b
