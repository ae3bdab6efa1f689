-- 36 to 38: what the tests of `late_verdict` say.
use Rattle.rules.specs.Verdicts.{accept, refuse}
use Prim.Native.Nat.{ℕ, ◌≤◌, ◌<◌}
use mathlib.Core.Path.{◌≡◌}
use mathlib.Core.Bool.{true, false, not}
use lib.Dec.{eqb, ltb}
use borrow.Author.Tests.{lt-ltb, le-ltb, eq-eqb, ne_eqb}
use Rattle.rules.specs.IfElse.{if_else}
use Rattle.streaming_descriptors.specs.declared.Format.{Format}
use Rattle.rules.specs.Place.{first_place}
use Rattle.streaming.specs.Inner.{count_broken, default_broken, late_by}
use Rattle.rules.proofs.Places.{same_place}

pub count-differs : (m n : ℕ) → (m ≡ n → ⊥) → not (eqb m n) ≡ true
count-differs m n h = rw (ne_eqb m n h)

pub count-agrees : (m n : ℕ) → m ≡ n → not (eqb m n) ≡ false
count-agrees m n h = rw (eq-eqb m n h)

pub default-some : (f : Format) → (f.default ≡ 0 → ⊥) → ltb f.frames f.default ≡ default_broken f
unfolding default_broken
default-some f h = rw (ne_eqb f.default 0 h)

module _ (g : ℕ → Format) (k : ℕ → ℕ) (n p i : ℕ) (a : i ≡ first_place (λ i. count_broken (g i) (k i)) n) where
  pub late-36 : i < n → refuse 36 (g i).offset ≡ late_by g k n p
  unfolding late_by if_else
  late-36 h = rw (← a, lt-ltb i n h)

  module _ (b : n ≤ i) (j : ℕ) (c : j ≡ first_place (λ i. default_broken (g i)) n) where
    pub late-37 : j < n → refuse 37 (g j).offset ≡ late_by g k n p
    unfolding late_by if_else
    late-37 h = rw (← a, le-ltb i n b, ← c, lt-ltb j n h)

    module _ (d : n ≤ j) (q : ℕ) (e : q ≡ p) where
      pub late-none : n ≡ q → accept ≡ late_by g k n p
      unfolding late_by if_else
      late-none h = rw (← a, le-ltb i n b, ← c, le-ltb j n d, ← e, eq-eqb n q h)

      pub late-38 : (n ≡ q → ⊥) → refuse 38 0 ≡ late_by g k n p
      unfolding late_by if_else
      late-38 h = rw (← a, le-ltb i n b, ← c, le-ltb j n d, ← e, ne_eqb n q h)

-- formats and numbers of frames that agree have the same verdict
pub late-same : (g h : ℕ → Format) (k m : ℕ → ℕ) (n p : ℕ) → ((i : ℕ) → g i ≡ h i) → ((i : ℕ) → i < n → k i ≡ m i) → late_by g k n p ≡ late_by h m n p
unfolding late_by
late-same g h k m n p a b =
    let x : first_place (λ i. count_broken (g i) (k i)) n ≡ first_place (λ i. count_broken (h i) (m i)) n = same_place (λ i. count_broken (g i) (k i)) (λ i. count_broken (h i) (m i)) n (λ j l. rw (a j, b j l)) in
    let y : first_place (λ i. default_broken (g i)) n ≡ first_place (λ i. default_broken (h i)) n = same_place (λ i. default_broken (g i)) (λ i. default_broken (h i)) n (λ j l. rw (a j)) in
    rw (x, y, a (first_place (λ i. count_broken (h i) (m i)) n), a (first_place (λ i. default_broken (h i)) n))
