-- The line of a word's number, by whether it is below zero.
use mathlib.Core.Path.{◌≡◌, refl, sym}
use mathlib.Core.Bool.{Bool, true, false}
use mathlib.Core.List.{[], ◌∷◌, ◌++◌}
use Prim.Native.Nat.{ℕ, zero, suc, ◌-◌, ◌<◌, ◌^◌}
use native.Mathlib.Omega.{arith}
use lib.Dec.{leb}
use lib.IntN.{pos, neg_ℤ}
use borrow.Author.Tests.{leb-true, leb-false, lt-ltb, le-ltb}
use Rattle.rules.specs.IfElse.{if_else}
use Rattle.camera_settings.specs.Numbers.{is_signed}
use Rattle.camera_settings.specs.declared.Setting.{Setting}
use Rattle.text.specs.Decimal.{decimal}
use Rattle.text.specs.Text.{bytes}
use Rattle.nearest.specs.Word.{signed_of, integer_of}
use Rattle.setup_lines.specs.Lines.{number_line}
use Rattle.setup_lines.specs.Inner.{is_below}

-- below zero there is something to print behind the minus sign
minus : (n : ℕ) → 0 < n → number_line (neg_ℤ (pos n)) ≡ bytes "number -" ++ (decimal n ++ (10 ∷ []))
minus zero h = absurd (omega arith)
minus (suc n) h = refl

not-both : true ≡ false → ⊥
not-both e = let z : ◌≡◌ {A = ℕ} 0 1 = cc in omega arith

below_by : (t : Bool) (w : ℕ) → w < 65536 → if_else t (leb 32768 w) false ≡ true → number_line (if_else t (signed_of w) (pos w)) ≡ bytes "number -" ++ (decimal (65536 - w) ++ (10 ∷ []))
unfolding if_else
below_by true w h e = rw (le-ltb w (2 ^ 15) (leb-true 32768 w e)) (minus (65536 - w) (omega arith))
below_by false w h e = absurd (not-both (sym e))

above-by : (t : Bool) (w : ℕ) → if_else t (leb 32768 w) false ≡ false → number_line (if_else t (signed_of w) (pos w)) ≡ bytes "number " ++ (decimal w ++ (10 ∷ []))
unfolding if_else
above-by true w e = rw (lt-ltb w (2 ^ 15) (leb-false 32768 w e))
above-by false w e = refl

pub line-below : (s : Setting) (w : ℕ) → w < 65536 → is_below s w ≡ true → number_line (integer_of s w) ≡ bytes "number -" ++ (decimal (65536 - w) ++ (10 ∷ []))
unfolding is_below integer_of
line-below s w h e = below_by (is_signed s) w h e

pub line-above : (s : Setting) (w : ℕ) → is_below s w ≡ false → number_line (integer_of s w) ≡ bytes "number " ++ (decimal w ++ (10 ∷ []))
unfolding is_below integer_of
line-above s w e = above-by (is_signed s) w e
