-- There is one first place, and what a search that goes up one place at a time has of it.
use Prim.Native.Nat.{ℕ, ◌+◌, ◌≤◌, ◌<◌}
use mathlib.Core.Path.{◌≡◌}
use mathlib.Core.Logic.{◌⊎◌, inl, inr, ⊎_elim}
use native.Mathlib.Omega.{arith}
use native.Mathlib.Decide.{dec_lt}
use native.Mathlib.Nat.{eq-or-lt_of_le}
use Rattle.rules.specs.First.{NoneBelow, First}

pub lt-or-ge : (a b : ℕ) → (a < b) ⊎ (b ≤ a)
lt-or-ge a b = go (dec_lt a b)
  where
    go : Dec (a < b) → (a < b) ⊎ (b ≤ a)
    go (yes h) = inl h
    go (no h) = inr (omega arith)

pub below-or-at : (m k : ℕ) → m < k + 1 → (m < k) ⊎ (m ≡ k)
below-or-at m k l = ⊎_elim (λ e. inr e) (λ h. inl h) (eq-or-lt_of_le {n = m} {m = k} (omega arith))

module _ (P : ℕ → Type 0) (n : ℕ) where
  not-less : (r s : ℕ) → First P n r → First P n s → r < s → ⊥
  not-less r s f g l = let w : s ≤ n = g.within in g.before r l (f.here (omega arith))

  pub first-unique : (r s : ℕ) → First P n r → First P n s → r ≡ s
  first-unique r s f g =
      ⊎_elim (λ l. absurd (not-less r s f g l))
      (λ h. ⊎_elim (λ l. absurd (not-less s r g f l)) (λ k. omega arith) (lt-or-ge s r))
      (lt-or-ge r s)

  -- where the first is n, it holds of none
  pub none_below : (r : ℕ) → First P n r → n ≤ r → NoneBelow n P
  none_below r f h k l p = f.before k (omega arith) p

-- the same places, by another name
pub first-map : (P Q : ℕ → Type 0) (n r : ℕ) → ((i : ℕ) → i < n → P i → Q i) → ((i : ℕ) → i < n → Q i → P i) → First P n r → First Q n r
first-map P Q n r f g h =
    let w : r ≤ n = h.within in
    record { within = w; before = λ i l q. h.before i l (g i (omega arith) q); here = λ l. f r l (h.here l) }
