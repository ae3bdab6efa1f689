-- Shifted words have the order of the integers that they stand for; shifted again they are the words.
use Prim.Native.Nat.{ℕ, ◌+◌, ◌-◌, ◌≤◌, ◌<◌, ◌^◌}
use mathlib.Core.Path.{◌≡◌, refl, sym, ap, ◌∙◌}
use mathlib.Core.Bool.{Bool, true, false}
use native.Mathlib.Omega.{arith}
use lib.Dec.{ltb}
use borrow.Author.Tests.{ltb-true, ltb-false, lt-ltb}
use lib.IntN.{pos, neg_ℤ}
use lib.Signed.{◌≤ℤ◌}
use Rattle.integers.proofs.Integers.{Is, is-neg, at_most, below, differ-alike}
use Rattle.rules.specs.IfElse.{if_else}
use Rattle.camera_settings.specs.Numbers.{is_signed}
use Rattle.camera_settings.specs.declared.Setting.{Setting}
use Rattle.nearest.specs.Word.{signed_of, integer_of}
use Rattle.nearest.specs.Answer.{refused_by, moved_to, range_of, NearestIs, NearestIs.by-92, NearestIs.by-93, NearestIs.moved}
use Rattle.nearest.specs.Inner.{turned, shifted, Closest}
use Rattle.nearest.specs.declared.Moved.{Moved}
use Rattle.nearest.proofs.Integers.{Shifts, to-integers}

-- what zero is shifted to
pub zero_by : Bool → ℕ
zero_by true = 32768
zero_by false = 0

is-signed : (w : ℕ) → w < 65536 → Is (signed_of w) (turned w) 32768
unfolding if_else
is-signed w h = go (ltb w (2 ^ 15)) refl
  where
    go : (t : Bool) → ltb w (2 ^ 15) ≡ t → Is (if_else t (pos w) (neg_ℤ (pos (2 ^ 16 - w)))) (turned w) 32768
    go true e = let k = ltb-true w (2 ^ 15) e in omega arith
    go false e = let k = ltb-false w (2 ^ 15) e in is-neg (pos (2 ^ 16 - w)) 32768 (turned w) (omega arith)

is-word-by : (t : Bool) (w : ℕ) → w < 65536 → Is (if_else t (signed_of w) (pos w)) (if_else t (turned w) w) (zero_by t)
unfolding if_else zero_by
is-word-by true w h = is-signed w h
is-word-by false w h = omega arith

module _ (s : Setting) where
  -- what zero is shifted to
  pub base : ℕ
  base = zero_by (is_signed s)

  pub is_word : (w : ℕ) → w < 65536 → Is (integer_of s w) (shifted s w) base
  unfolding base integer_of shifted
  is_word w h = is-word-by (is_signed s) w h

  again_by : (t : Bool) (w : ℕ) → w < 65536 → if_else t (turned (if_else t (turned w) w)) (if_else t (turned w) w) ≡ w
  unfolding if_else
  again_by true w h = omega arith
  again_by false w h = refl

  pub shifted-again : (w : ℕ) → w < 65536 → shifted s (shifted s w) ≡ w
  unfolding shifted
  shifted-again w h = again_by (is_signed s) w h

  few-by : (t : Bool) (w : ℕ) → w < 65536 → if_else t (turned w) w < 65536
  unfolding if_else
  few-by true w h = omega arith
  few-by false w h = h

  pub shifted-few : (w : ℕ) → w < 65536 → shifted s w < 65536
  unfolding shifted
  shifted-few w h = few-by (is_signed s) w h

  -- a step above 0 is its word
  step_by : (t : Bool) (w : ℕ) → w < 65536 → if_else t (turned 0) 0 < if_else t (turned w) w → (if_else t (signed_of w) (pos w) ≡ pos w) × (0 < w)
  unfolding if_else
  step_by true w h l = (rw (lt-ltb w (2 ^ 15) (omega arith)), omega arith)
  step_by false w h l = (refl, l)

  is-step : (step : ℕ) → step < 65536 → shifted s 0 < shifted s step → (integer_of s step ≡ pos step) × (0 < step)
  unfolding integer_of shifted
  is-step step d above = step_by (is_signed s) step d above

  pub some-step : (step : ℕ) → step < 65536 → shifted s 0 < shifted s step → 0 < step
  some-step step d above = (is-step step d above).1

  zero-by : (t : Bool) → if_else t (signed_of 0) (pos 0) ≡ pos 0
  unfolding if_else
  zero-by true = refl
  zero-by false = refl

  zero_is : integer_of s 0 ≡ pos 0
  unfolding integer_of
  zero_is = zero-by (is_signed s)

  -- words stand for different integers
  pub integer-different : (v w : ℕ) → v < 65536 → w < 65536 → integer_of s v ≡ integer_of s w → v ≡ w
  integer-different v w h k e =
      let x : shifted s v + base ≡ shifted s w + base = differ-alike (integer_of s w) (shifted s v) base (shifted s w) base (rw e at (is_word v h)) (is_word w k) in
      let y : shifted s v ≡ shifted s w = omega arith in
      sym (shifted-again v h) ∙ ap (shifted s) y ∙ shifted-again w k

  module _ (minimum maximum step wanted : ℕ) (a : minimum < 65536) (b : maximum < 65536) (d : step < 65536) (w : wanted < 65536) where
    pub gives-92 : (r : Moved) → shifted s maximum < shifted s minimum → r ≡ refused_by 92 → NearestIs s minimum maximum step wanted r
    gives-92 r h e = rw e (by-92 (below _ _ _ base _ base (is_word maximum b) (is_word minimum a) (omega arith)))

    module _ (order : shifted s minimum ≤ shifted s maximum) where
      in_order : integer_of s minimum ≤ℤ integer_of s maximum
      in_order = at_most _ _ _ base _ base (is_word minimum a) (is_word maximum b) (omega arith)

      pub gives-93 : (r : Moved) → shifted s step ≤ shifted s 0 → r ≡ refused_by 93 → NearestIs s minimum maximum step wanted r
      gives-93 r h e = rw e (by-93 in_order (rw zero_is at (at_most (integer_of s step) (integer_of s 0) (shifted s step) base (shifted s 0) base (is_word step d) (is_word 0 (omega arith)) (omega arith))))

      module _ (above : shifted s 0 < shifted s step) where
        pub gives_moved : (place : ℕ) → Closest (shifted s minimum) (shifted s maximum) step (shifted s wanted) place → place < 65536
            → (r : Moved) → r ≡ moved_to (shifted s place) → NearestIs s minimum maximum step wanted r
        gives_moved place c h r e =
            let z : Shifts base (shifted s minimum) (shifted s maximum) step (range_of s minimum maximum step) =
            record { minimum = is_word minimum a; maximum = is_word maximum b; step = (is-step step d above).0 } in
            let n : Is (integer_of s (shifted s place)) place base = rw (shifted-again place h) at (is_word (shifted s place) (shifted-few place h)) in
            rw e (moved in_order (rw zero_is at (below (integer_of s 0) (integer_of s step) (shifted s 0) base (shifted s step) base (is_word 0 (omega arith)) (is_word step d) (omega arith)))
            (shifted s place) (shifted-few place h) (to-integers base _ _ step (range_of s minimum maximum step) z (shifted s wanted) place _ _ (is_word wanted w) n c))
