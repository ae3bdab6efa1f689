-- What one turn of each loop, and each test, says of the definitions.
use Prim.Native.Nat.{ℕ, zero, suc, ◌+◌, ◌-◌, ◌*◌, ◌≤◌, ◌<◌}
use mathlib.Core.Path.{◌≡◌, refl}
use mathlib.Core.List.{List, [], ◌∷◌}
use mathlib.Core.Bool.{Bool, true, false}
use borrow.Author.Tests.{le-leb, lt-leb, eq-eqb, ne_eqb}
use native.Mathlib.Omega.{arith}
use Rattle.le.specs.Le.{le32_at}
use Rattle.rules.specs.IfElse.{if_else}
use Rattle.intervals.specs.Intervals.{span, list_at, rises, among, listed, stepped, offered}

-- ---- the rest of a list, behind its first i intervals: a test says of it what it says of the whole
pub record Rest (s : List ℕ) (p k i : ℕ) (f : List ℕ → Bool) (whole : Bool) : Type 0 where
  pub same : f (list_at s (p + 4 * i) (k - i)) ≡ whole

pub rest-start : (s : List ℕ) (p k : ℕ) (f : List ℕ → Bool) → Rest s p k 0 f (f (list_at s p k))
rest-start s p k f = let e : p + 4 * 0 ≡ p = omega arith in let d : k - 0 ≡ k = omega arith in record { same = rw (e, d) }

list-more : (s : List ℕ) (p k i : ℕ) → i < k → list_at s (p + 4 * i) (k - i) ≡ le32_at s (p + 4 * i) ∷ list_at s (p + 4 * (i + 1)) (k - (i + 1))
unfolding list_at
list-more s p k i h =
    let e : k - i ≡ suc (k - (i + 1)) = omega arith in
    let d : p + 4 * i + 4 ≡ p + 4 * (i + 1) = omega arith in
    rw (e, d)

pub none_left : (s : List ℕ) (p k i : ℕ) (f : List ℕ → Bool) (w : Bool) → Rest s p k i f w → k ≤ i → f [] ≡ w
unfolding list_at
none_left s p k i f w r h = let e : k - i ≡ 0 = omega arith in rw e at r.same

module _ (s : List ℕ) (p k i before : ℕ) (w : Bool) (r : Rest s p k i (rises before) w) (h : i < k) (y : ℕ) (e : y ≡ le32_at s (p + 4 * i)) where
  pub not-rising : y ≤ before → false ≡ w
  unfolding rises if_else
  not-rising l = rw (list-more s p k i h, ← e, le-leb y before l) at r.same

  pub rising-on : before < y → Rest s p k (i + 1) (rises y) w
  unfolding rises if_else
  rising-on l = record { same = rw (list-more s p k i h, ← e, lt-leb y before l) at r.same }

module _ (s : List ℕ) (p k i x : ℕ) (w : Bool) (r : Rest s p k i (among x) w) (h : i < k) (y : ℕ) (e : y ≡ le32_at s (p + 4 * i)) where
  pub here-among : y ≡ x → true ≡ w
  unfolding among if_else
  here-among l = rw (list-more s p k i h, ← e, eq-eqb y x l) at r.same

  pub among-on : (y ≡ x → ⊥) → Rest s p k (i + 1) (among x) w
  unfolding among if_else
  among-on l = record { same = rw (list-more s p k i h, ← e, ne_eqb y x l) at r.same }

-- ---- the two ways of a frame
pub span-some : (k : ℕ) → (k ≡ 0 → ⊥) → span k ≡ 4 * k
span-some zero h = absurd (h refl)
span-some (suc k) h = refl

module _ (s : List ℕ) (p k x : ℕ) where
  pub offers-steps : (r : Bool) (a b d : ℕ) → k ≡ 0 → a ≡ le32_at s p → b ≡ le32_at s (p + 4) → d ≡ le32_at s (p + 8) → r ≡ stepped a b d x → r ≡ offered s p k x
  unfolding offered
  offers-steps r a b d z e f g h = rw (z, ← e, ← f, ← g) h

  offers-list : (k ≡ 0 → ⊥) → offered s p k x ≡ listed (list_at s p k) x
  unfolding offered
  offers-list z = go k z
    where
      go : (k : ℕ) → (k ≡ 0 → ⊥) → offered s p k x ≡ listed (list_at s p k) x
      go zero z = absurd (z refl)
      go (suc k) z = refl

  pub offers-not : (b : Bool) → (k ≡ 0 → ⊥) → b ≡ rises 0 (list_at s p k) → b ≡ false → false ≡ offered s p k x
  unfolding if_else
  offers-not b z e f = rw (offers-list z, ← e, f)

  pub offers-among : (b r : Bool) → (k ≡ 0 → ⊥) → b ≡ rises 0 (list_at s p k) → b ≡ true → r ≡ among x (list_at s p k) → r ≡ offered s p k x
  unfolding if_else
  offers-among b r z e f g = rw (offers-list z, ← e, f) g

-- ---- where the intervals lie
pub room-none : (n p k : ℕ) → p + span k ≤ n → k ≡ 0 → p + 12 ≤ n
room-none n p k h e = rw e at h

pub room-some : (n p k : ℕ) → (p + span k ≤ n) × (k < 256) → (k ≡ 0 → ⊥) → (p + 4 * k ≤ n) × (k < 256)
room-some n p k h e = (omega (arith, span-some k e), h.1)
