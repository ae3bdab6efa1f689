-- The first place at which a test says yes: one turn of a search, and what is found is the first.
use Prim.Native.Nat.{ℕ, zero, suc, ◌+◌, ◌-◌, ◌≤◌, ◌<◌}
use mathlib.Core.Path.{◌≡◌, refl, sym, ◌∙◌}
use mathlib.Core.Bool.{Bool, true, false, true≢false}
use native.Mathlib.Omega.{arith}
use native.Mathlib.Decide.{dec_le}
use native.Mathlib.Numerals.{add-one}
use Rattle.rules.specs.IfElse.{if_else}
use Rattle.rules.specs.First.{First}
use Rattle.rules.specs.Place.{place_from, first_place}

-- the search from place i on answers as the whole search does
pub record Seeking (test : ℕ → Bool) (n i : ℕ) : Type 0 where
  pub within : i ≤ n
  pub same : place_from test i (n - i) ≡ first_place test n

pub seek : (test : ℕ → Bool) (n : ℕ) → Seeking test n 0
seek test n = let e : n - 0 ≡ n = omega arith in record { within = omega arith; same = rw e }

place-more : (test : ℕ → Bool) (n i : ℕ) → i < n → place_from test i (n - i) ≡ if_else (test i) i (place_from test (suc i) (n - suc i))
unfolding place_from
place-more test n i h = let e : n - i ≡ suc (n - suc i) = omega arith in rw e

module _ (test : ℕ → Bool) (n i : ℕ) (w : Seeking test n i) where
  pub found_here : i < n → test i ≡ true → i ≡ first_place test n
  unfolding if_else
  found_here h e = rw (place-more test n i h, e) at w.same

  pub not-here : i < n → test i ≡ false → Seeking test n (i + 1)
  unfolding if_else
  not-here h e = record { within = omega arith; same = rw (add-one i) (rw (place-more test n i h, e) at w.same) }

  pub none_here : n ≤ i → n ≡ first_place test n
  unfolding place_from
  none_here h = let x = w.within in let q : i ≡ n = omega arith in let z : n - i ≡ 0 = omega arith in sym q ∙ (rw z at w.same)

-- ---- the same places by another test that agrees below n
same_from : (f g : ℕ → Bool) (i m : ℕ) → ((j : ℕ) → j < i + m → f j ≡ g j) → place_from f i m ≡ place_from g i m
unfolding place_from
same_from f g i zero h = refl
same_from f g i (suc m) h = rw (h i (omega arith), same_from f g (suc i) m (λ j l. h j (omega arith)))

pub same_place : (f g : ℕ → Bool) (n : ℕ) → ((j : ℕ) → j < n → f j ≡ g j) → first_place f n ≡ first_place g n
same_place f g n h = same_from f g 0 n (λ j l. h j (omega arith))

-- ---- what is found is the first
abbrev pub Says : (ℕ → Bool) → ℕ → Type 0
Says test i = test i ≡ true

-- from i on
pub record FirstFrom (test : ℕ → Bool) (i n r : ℕ) : Type 0 where
  pub least : i ≤ r
  pub within : r ≤ n
  pub before : (j : ℕ) → i ≤ j → j < r → test j ≡ true → ⊥
  pub here : r < n → test r ≡ true

place-first : (test : ℕ → Bool) (i m : ℕ) → FirstFrom test i (i + m) (place_from test i m)
unfolding place_from if_else
place-first test i zero = record { least = omega arith; within = omega arith; before = λ j a b. absurd (omega arith); here = λ h. absurd (omega arith) }
place-first test i (suc m) = go (test i) refl (place_from test (suc i) m) (place-first test (suc i) m)
  where
    go : (b : Bool) → test i ≡ b → (r : ℕ) → FirstFrom test (suc i) (suc i + m) r → FirstFrom test i (i + suc m) (if_else b i r)
    go true q r f = record { least = omega arith; within = omega arith; before = λ j a b. absurd (omega arith); here = λ h. q }
    go false q r f = record { least = omega (arith, f.least); within = omega (arith, f.within); before = before; here = λ h. f.here (omega arith) }
      where
        before : (j : ℕ) → i ≤ j → j < r → test j ≡ true → ⊥
        before j a b e = at (dec_le (suc i) j)
          where
            at : Dec (suc i ≤ j) → ⊥
            at (yes l) = f.before j l b e
            at (no l) = let z : j ≡ i = omega arith in true≢false (sym (rw z at e) ∙ q)

pub first-place : (test : ℕ → Bool) (n : ℕ) → First (Says test) n (first_place test n)
first-place test n =
    let f = place-first test 0 n in
    let e : 0 + n ≡ n = omega arith in
    record { within = omega (arith, f.within); before = λ i h. f.before i (omega arith) h; here = λ h. f.here (omega arith) }
