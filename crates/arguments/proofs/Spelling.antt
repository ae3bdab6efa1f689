-- The digits of a number are read one by one.
use Rattle.std.specs.Prelude.{None, Some}
use Prim.Native.Nat.{ℕ, suc, ◌+◌, ◌≤◌, ◌<◌}
use mathlib.Core.Path.{◌≡◌, refl}
use mathlib.Core.List.{List, [], ◌∷◌}
use mathlib.Core.Bool.{◌||◌}
use lib.ListN.{length, get_or, drop, length-drop}
use lib.Seq.{drop-cons}
use lib.Dec.{ltb}
use borrow.Author.Tests.{lt-ltb, le-ltb}
use native.Mathlib.Numerals.{add-one}
use native.Mathlib.Omega.{arith}
use Rattle.rules.specs.IfElse.{if_else}
use Rattle.arguments.specs.Digits.{no_digit, next, spelt, number_of}

-- from place i on the digits spell what they all spell
pub record Spelling (most : ℕ) (l : List ℕ) (v i : ℕ) : Type 0 where
  pub within : i ≤ length l
  pub low : v ≤ most
  pub same : spelt most v (drop i l) ≡ number_of most l

module _ (most : ℕ) (l : List ℕ) where
  pub no-digits : length l ≡ 0 → None ≡ number_of most l
  unfolding number_of
  no-digits e = go l e
    where
      go : (l : List ℕ) → length l ≡ 0 → None ≡ number_of most l
      go [] e = refl
      go (d ∷ l) e = absurd (omega arith)

  pub spelling : (length l ≡ 0 → ⊥) → Spelling most l 0 0
  unfolding number_of
  spelling n = record { within = omega arith; low = omega arith; same = go l n }
    where
      go : (l : List ℕ) → (length l ≡ 0 → ⊥) → spelt most 0 l ≡ number_of most l
      go [] n = absurd (n refl)
      go (d ∷ l) n = refl

  module _ (v i : ℕ) (w : Spelling most l v i) where
    pub spelt-all : length l ≤ i → Some v ≡ number_of most l
    unfolding spelt
    spelt-all h = go (drop i l) (simp length-drop (omega arith)) w.same
      where
        go : (m : List ℕ) → length m ≡ 0 → spelt most v m ≡ number_of most l → Some v ≡ number_of most l
        go [] e q = q
        go (d ∷ m) e q = absurd (omega arith)

    module _ (h : i < length l) where
      here : if_else (no_digit (get_or l i 0) || ltb most (next v (get_or l i 0))) None (spelt most (next v (get_or l i 0)) (drop (suc i) l)) ≡ number_of most l
      unfolding spelt
      here = rw (drop-cons l i 0 h) at w.same

      pub below-digits : get_or l i 0 < 48 → None ≡ number_of most l
      unfolding if_else
      below-digits k = rw (lt-ltb (get_or l i 0) 48 k) at here

      module _ (a : 48 ≤ get_or l i 0) where
        pub above-digits : 57 < get_or l i 0 → None ≡ number_of most l
        unfolding if_else
        above-digits k = rw (le-ltb (get_or l i 0) 48 a, lt-ltb 57 (get_or l i 0) k) at here

        module _ (b : get_or l i 0 ≤ 57) where
          pub too_large : most < next v (get_or l i 0) → None ≡ number_of most l
          unfolding if_else
          too_large k = rw (le-ltb (get_or l i 0) 48 a, le-ltb 57 (get_or l i 0) b, lt-ltb most (next v (get_or l i 0)) k) at here

          pub one_more : next v (get_or l i 0) ≤ most → Spelling most l (next v (get_or l i 0)) (i + 1)
          unfolding if_else
          one_more k =
              let q = rw (le-ltb (get_or l i 0) 48 a, le-ltb 57 (get_or l i 0) b, le-ltb most (next v (get_or l i 0)) k) at here in
              record { within = omega arith; low = k; same = rw (add-one i) q }
