-- A word is one thing: `Reads` leaves one answer.
use Prim.Native.Nat.{ℕ}
use mathlib.Core.Path.{◌≡◌, refl, sym, ap, ◌∙◌}
use mathlib.Core.Bool.{Bool, true, false}
use mathlib.Core.List.{List}
use lib.ListN.{get_or}
use native.Mathlib.Omega.{arith}
use Rattle.text.specs.Text.{bytes}
use Rattle.trace_arguments.specs.declared.Word.{Word}
use Rattle.trace_arguments.specs.Words.{dashed, Reads}
use Rattle.trace_arguments.specs.Words as words

no-dashes : (w name : List ℕ) → dashed name ≡ true → dashed w ≡ false → w ≡ name → ⊥
no-dashes w name t f e = let z : false ≡ true = sym f ∙ ap dashed e ∙ t in let o : ◌≡◌ {A = ℕ} 0 1 = cc in omega arith

both : (w : List ℕ) → dashed w ≡ true → dashed w ≡ false → ⊥
both w t f = no-dashes w w t f refl

-- two names differ in byte k
apart : (k : ℕ) (w a b : List ℕ) → (get_or a k 0 ≡ get_or b k 0 → ⊥) → w ≡ a → w ≡ b → ⊥
apart k w a b d p q = d (ap (λ (l : List ℕ). get_or l k 0) (sym p ∙ q))

sizes-short : (w : List ℕ) → w ≡ bytes "--sizes" → w ≡ bytes "--short" → ⊥
sizes-short w = apart 3 w (bytes "--sizes") (bytes "--short") (λ (e : ◌≡◌ {A = ℕ} 105 104). omega arith)

sizes-stamp : (w : List ℕ) → w ≡ bytes "--sizes" → w ≡ bytes "--stamp" → ⊥
sizes-stamp w = apart 3 w (bytes "--sizes") (bytes "--stamp") (λ (e : ◌≡◌ {A = ℕ} 105 116). omega arith)

short-stamp : (w : List ℕ) → w ≡ bytes "--short" → w ≡ bytes "--stamp" → ⊥
short-stamp w = apart 3 w (bytes "--short") (bytes "--stamp") (λ (e : ◌≡◌ {A = ℕ} 104 116). omega arith)

pub word-unique : (w : List ℕ) {r t : Word} → Reads w r → Reads w t → r ≡ t
word-unique w (words.Reads.sizes p) (words.Reads.sizes q) = refl
word-unique w (words.Reads.sizes p) (words.Reads.short q) = absurd (sizes-short w p q)
word-unique w (words.Reads.sizes p) (words.Reads.stamp q) = absurd (sizes-stamp w p q)
word-unique w (words.Reads.sizes p) (words.Reads.unknown d a b c) = absurd (a p)
word-unique w (words.Reads.sizes p) (words.Reads.file f) = absurd (no-dashes w (bytes "--sizes") refl f p)
word-unique w (words.Reads.short p) (words.Reads.sizes q) = absurd (sizes-short w q p)
word-unique w (words.Reads.short p) (words.Reads.short q) = refl
word-unique w (words.Reads.short p) (words.Reads.stamp q) = absurd (short-stamp w p q)
word-unique w (words.Reads.short p) (words.Reads.unknown d a b c) = absurd (b p)
word-unique w (words.Reads.short p) (words.Reads.file f) = absurd (no-dashes w (bytes "--short") refl f p)
word-unique w (words.Reads.stamp p) (words.Reads.sizes q) = absurd (sizes-stamp w q p)
word-unique w (words.Reads.stamp p) (words.Reads.short q) = absurd (short-stamp w q p)
word-unique w (words.Reads.stamp p) (words.Reads.stamp q) = refl
word-unique w (words.Reads.stamp p) (words.Reads.unknown d a b c) = absurd (c p)
word-unique w (words.Reads.stamp p) (words.Reads.file f) = absurd (no-dashes w (bytes "--stamp") refl f p)
word-unique w (words.Reads.unknown d a b c) (words.Reads.sizes q) = absurd (a q)
word-unique w (words.Reads.unknown d a b c) (words.Reads.short q) = absurd (b q)
word-unique w (words.Reads.unknown d a b c) (words.Reads.stamp q) = absurd (c q)
word-unique w (words.Reads.unknown d a b c) (words.Reads.unknown e x y z) = refl
word-unique w (words.Reads.unknown d a b c) (words.Reads.file f) = absurd (both w d f)
word-unique w (words.Reads.file f) (words.Reads.sizes q) = absurd (no-dashes w (bytes "--sizes") refl f q)
word-unique w (words.Reads.file f) (words.Reads.short q) = absurd (no-dashes w (bytes "--short") refl f q)
word-unique w (words.Reads.file f) (words.Reads.stamp q) = absurd (no-dashes w (bytes "--stamp") refl f q)
word-unique w (words.Reads.file f) (words.Reads.unknown d a b c) = absurd (both w d f)
word-unique w (words.Reads.file f) (words.Reads.file g) = refl
