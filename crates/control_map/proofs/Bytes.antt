-- The controls, one by one into their places; and what each place holds.
use Prim.Native.Nat.{ℕ, zero, suc, ◌+◌, ◌≤◌, ◌<◌}
use mathlib.Core.Path.{◌≡◌, refl, sym, ap, ◌∙◌}
use mathlib.Core.List.{List, [], ◌∷◌, ◌++◌, append-nil}
use lib.ListN.{length, set, get_or, replicate, length-append}
use borrow.Author.Tests.{lt-leb, le-leb}
use native.Mathlib.Omega.{arith}
use native.Mathlib.Numerals.{add-one}
use Rattle.rules.specs.IfElse.{if_else}
use Rattle.rules.specs.Pad.{pad}
use Rattle.rules.proofs.Padded.{pad-set}
use Rattle.control_map.specs.Answer.{controls_most, control_byte, first_controls, control_bytes}

pub controls-length : (s : List ℕ) (o n k : ℕ) → length (first_controls s o n k) ≡ k
unfolding first_controls
controls-length s o n zero = refl
controls-length s o n (suc k) = simp length-append (rw (controls-length s o n k) (omega arith))

-- the first i are in their places
pub record Filling (s : List ℕ) (o n : ℕ) (l : List ℕ) (i : ℕ) : Type 0 where
  pub few : i ≤ controls_most
  pub filled : l ≡ pad controls_most 0 (first_controls s o n i)

module _ (s : List ℕ) (o n : ℕ) where
  pub fills : Filling s o n (replicate controls_most 0) 0
  unfolding first_controls
  fills = record { few = omega arith; filled = refl }

  pub filled_more : (l : List ℕ) (i x : ℕ) → Filling s o n l i → i < controls_most → x ≡ control_byte s o n i → Filling s o n (set l i x) (i + 1)
  unfolding first_controls
  filled_more l i x w h e =
      let c = controls-length s o n i in
      let g : set (pad controls_most 0 (first_controls s o n i)) (length (first_controls s o n i)) (control_byte s o n i) ≡ pad controls_most 0 (first_controls s o n i ++ (control_byte s o n i ∷ [])) =
      pad-set controls_most 0 (first_controls s o n i) (control_byte s o n i) (rw c h) in
      record { few = omega arith; filled = rw (add-one i, e, w.filled) (ap (λ (k : ℕ). set (pad controls_most 0 (first_controls s o n i)) k (control_byte s o n i)) (sym c) ∙ g) }

  pub filled-all : (l : List ℕ) (i : ℕ) → Filling s o n l i → controls_most ≤ i → l ≡ control_bytes s o n
  filled-all l i w h =
      let e : i ≡ controls_most = omega (arith, w.few) in
      let c = controls-length s o n controls_most in
      w.filled ∙ (rw e (rw c (append-nil (first_controls s o n controls_most))))

-- a place under the length has its control, and one behind it 0
pub control-given : (s : List ℕ) (o n i : ℕ) → i < n → control_byte s o n i ≡ get_or s (o + i) 0
unfolding control_byte if_else
control-given s o n i h = rw (lt-leb n i h)

pub behind-zero : (s : List ℕ) (o n i : ℕ) → n ≤ i → control_byte s o n i ≡ 0
unfolding control_byte if_else
behind-zero s o n i h = rw (le-leb n i h)
