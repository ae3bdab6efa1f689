-- What each way through `read`, `write`, `number_at` and `numbers_of` says of the definitions.
use Rattle.rules.specs.Verdicts.{accept, refuse}
use Prim.Native.Nat.{ℕ, zero, suc, ◌+◌, ◌*◌, ◌≤◌, ◌<◌}
use mathlib.Core.Path.{◌≡◌, refl, sym, ap, ◌∙◌}
use mathlib.Core.Bool.{Bool, true, false, not}
use mathlib.Core.List.{List, [], ◌∷◌, ◌++◌}
use native.Mathlib.Numerals.{add-one}
use native.Mathlib.Omega.{arith}
use lib.ListN.{length, get_or, set, drop, replicate, get_or-eq_default}
use lib.Dec.{eqb}
use borrow.Author.Tests.{eq-eqb, ne_eqb, eqb-true, not-false}
use Rattle.rules.specs.Pad.{pad}
use Rattle.rules.proofs.Padded.{pad-set}
use Rattle.rules.proofs.Rows.{or-first}
use Rattle.fill.specs.Fill.{any_set}
use Rattle.places.specs.Places.{word_at, words_from, record_of, numbers_in, broken54, held_by, held_of, write_verdict, written}

-- ---- 54
module _ (r : List ℕ) where
  pub right-size : (x : Bool) → x ≡ broken54 r → x ≡ false → length r ≡ 320
  unfolding broken54
  right-size x e f = eqb-true (length r) 320 (not-false (eqb (length r) 320) (or-first (not (eqb (length r) 320)) (any_set (drop 248 r)) (sym e ∙ f)))

  -- ---- reading and writing
  pub held_none : (x : Bool) → x ≡ broken54 r → x ≡ true → record { verdict = refuse 54 0; numbers = replicate 31 0 } ≡ held_of r
  unfolding held_of
  held_none x e f = ap (λ (z : Bool). held_by z r) (sym f ∙ e)

  pub held_all : (x : Bool) (ns : List ℕ) → x ≡ broken54 r → x ≡ false → ns ≡ numbers_in r → record { verdict = accept; numbers = ns } ≡ held_of r
  unfolding held_of
  held_all x ns e f g = ap (λ (l : List ℕ). record { verdict = accept; numbers = l }) g ∙ ap (λ (z : Bool). held_by z r) (sym f ∙ e)

  pub written_none : (ns : List ℕ) → (length r ≡ 320 → ⊥) → (refuse 54 0 ≡ write_verdict r) × (r ≡ written r ns)
  unfolding write_verdict written
  written_none ns h = (rw (ne_eqb (length r) 320 h), rw (ne_eqb (length r) 320 h))

  pub written_all : (ns new : List ℕ) → length r ≡ 320 → new ≡ record_of ns → (accept ≡ write_verdict r) × (new ≡ written r ns)
  unfolding write_verdict written
  written_all ns new h e = (rw (eq-eqb (length r) 320 h), rw (eq-eqb (length r) 320 h) e)

-- ---- a place of the rest
pub past : (l : List ℕ) (k : ℕ) → length l ≡ 31 → 31 ≤ k → 0 ≡ get_or l k 0
past l k e h = sym (get_or-eq_default l 0 (omega arith))

-- ---- the numbers, place by place
pub words-length : (r : List ℕ) (o k : ℕ) → length (words_from r o k) ≡ k
words-length r o zero = refl
words-length r o (suc k) = ap suc (words-length r (o + 8) k)

pub words_more : (r : List ℕ) (o k : ℕ) → words_from r o (suc k) ≡ words_from r o k ++ (word_at r (o + 8 * k) ∷ [])
words_more r o zero = ap (λ (i : ℕ). word_at r i ∷ []) (omega arith)
words_more r o (suc k) =
    let e : o + 8 + 8 * k ≡ o + 8 * suc k = omega arith in
    ap (λ (l : List ℕ). word_at r o ∷ l) (words_more r (o + 8) k ∙ ap (λ (i : ℕ). words_from r (o + 8) k ++ (word_at r i ∷ [])) e)

abbrev pub Read : List ℕ → ℕ → List ℕ → Type 0
Read r k ns = (k ≤ 31) × (ns ≡ pad 31 0 (words_from r 0 k))

module _ (r : List ℕ) (k : ℕ) (ns : List ℕ) (n : ℕ) where
  pub one-read : k < 31 → Read r k ns → n ≡ word_at r (8 * k) → Read r (k + 1) (set ns k n)
  one-read h p e =
      let l : length (words_from r 0 k) ≡ k = words-length r 0 k in
      let f : set (pad 31 0 (words_from r 0 k)) k n ≡ pad 31 0 (words_from r 0 k ++ (n ∷ []))
      = ap (λ (i : ℕ). set (pad 31 0 (words_from r 0 k)) i n) (sym l) ∙ pad-set 31 0 (words_from r 0 k) n (omega arith) in
      let z : 0 + 8 * k ≡ 8 * k = omega arith in
      let g : words_from r 0 k ++ (n ∷ []) ≡ words_from r 0 (k + 1)
      = ap (λ (m : ℕ). words_from r 0 k ++ (m ∷ [])) (e ∙ ap (word_at r) (sym z)) ∙ sym (words_more r 0 k) ∙ ap (words_from r 0) (sym (add-one k)) in
      (omega arith, ap (λ (m : List ℕ). set m k n) p.1 ∙ f ∙ ap (pad 31 0) g)

  pub all_read : 31 ≤ k → Read r k ns → ns ≡ numbers_in r
  unfolding numbers_in
  all_read h p = let e : k ≡ 31 = omega (arith, p.0) in p.1 ∙ ap (λ (m : ℕ). pad 31 0 (words_from r 0 m)) e
