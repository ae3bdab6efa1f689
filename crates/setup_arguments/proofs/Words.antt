-- A word that is compared with each name in turn, and a number by its sign.
use Rattle.std.specs.Prelude.{None, Option}
use Prim.Native.Nat.{ℕ, ◌-◌}
use mathlib.Core.Path.{◌≡◌, refl, sym, ap, ◌∙◌}
use mathlib.Core.Bool.{Bool, true, false}
use mathlib.Core.List.{List, [], ◌∷◌}
use lib.ListN.{length, take, drop, get_or}
use lib.Seq.{take_all}
use native.Mathlib.Omega.{arith}
use borrow.Author.Tests.{eq-eqb, ne_eqb}
use Rattle.rules.specs.IfElse.{if_else}
use Rattle.arguments.specs.Digits.{number_of}
use Rattle.setup_arguments.specs.Arguments.{minus_of, signed_of}

-- a comparison that says no
pub unlike : (t : Bool) (x y : List ℕ) → t ≡ false → (x ≡ y → t ≡ true) → x ≡ y → ⊥
unlike t x y n f e = let z : false ≡ true = sym n ∙ f e in let o : ◌≡◌ {A = ℕ} 0 1 = cc in omega arith

pub no_text : (text : List ℕ) → length text ≡ 0 → None ≡ signed_of text
unfolding signed_of
no_text [] e = refl
no_text (d ∷ l) e = absurd (omega arith)

pub with-minus : (text : List ℕ) (n r : Option ℕ) → (length text ≡ 0 → ⊥) → get_or text 0 0 ≡ 45 → n ≡ number_of 32768 (take (length text - 1) (drop 1 text)) → r ≡ minus_of n → r ≡ signed_of text
unfolding signed_of if_else
with-minus [] n r h e p q = absurd (h refl)
with-minus (d ∷ l) n r h e p q =
    let z : take (length (d ∷ l) - 1) l ≡ l = take_all (length (d ∷ l) - 1) l (omega arith) in
    q ∙ (rw (eq-eqb d 45 e) (ap minus_of (rw z at p)))

pub no_minus : (text : List ℕ) (r : Option ℕ) → (length text ≡ 0 → ⊥) → (get_or text 0 0 ≡ 45 → ⊥) → r ≡ number_of 32767 text → r ≡ signed_of text
unfolding signed_of if_else
no_minus [] r h e p = absurd (h refl)
no_minus (d ∷ l) r h e p = rw (ne_eqb d 45 e) p
