-- Few tests that say of words that they are a session's.
use Prim.Native.Nat.{ℕ, zero, suc, ◌+◌, ◌*◌, ◌/◌, ◌%◌, ◌<◌, ◌≤◌}
use mathlib.Core.Path.{◌≡◌, refl, sym, ap, ◌∙◌}
use mathlib.Core.Bool.{true, false, true≢false}
use mathlib.Core.List.{List}
use native.Mathlib.Omega.{arith}
use lib.ListN.{get_or}
use lib.Dec.{eqb}
use borrow.Author.Tests.{ne_eqb, eqb-true, not-false}
use Rattle.rules.specs.IfElse.{if_else}
use Rattle.rules.proofs.Rows.{any_none, none_any}
use Rattle.session_rules.specs.declared.Phase.{Phase}
use Rattle.session_rules.specs.declared.Phase.TheVariants.{Under}
use Rattle.session_words.specs.declared.Read.TheVariants.{Laid}
use Rattle.session_words.specs.Words.{one_of, stamp_word, layer_word, marks_of, run_of, words_of}
use Rattle.session_words.specs.Reading.{stamp_in, layer_in, fault_in, kind_in, phase_in, is_one, marks_in, run_in, rest_in, no_words, differ_at, spare_set, other_form, read_of}
use Rattle.session_words.proofs.Differ.{no_difference}

-- no is not yes
pub never : false ≡ true → ⊥
never q = true≢false (sym q)

stamp-same : (x : ℕ) → x ≤ 4294967296 → stamp_word (stamp_in x) ≡ x
unfolding stamp_in if_else
stamp-same zero h = refl
stamp-same (suc x) h = rw (ne_eqb (suc x) 0 (λ z. absurd (let y : suc x ≡ 0 = z in omega arith))) (omega arith)

layer-same : (x : ℕ) → x ≡ 0 → layer_word (layer_in x) ≡ x
unfolding layer_in if_else
layer-same x e = rw e

low : (m : ℕ) → m ≤ 3 → one_of (is_one (m % 2)) + 2 * one_of (is_one (m / 2 % 2)) ≡ m
low zero h = refl
low (suc zero) h = refl
low (suc (suc zero)) h = refl
low (suc (suc (suc zero))) h = refl
low (suc (suc (suc (suc m)))) h = absurd (omega arith)

module _ (w : List ℕ) (spare : spare_set w ≡ false) (few : marks_in w ≤ 3) where
  under : (rest_in w).track.phase ≡ Under (run_in w)
  unfolding rest_in phase_in if_else
  under = let d : marks_in w / 32 % 4 ≡ 0 = omega arith in rw d

  marks : marks_of (rest_in w) ≡ marks_in w
  unfolding rest_in phase_in kind_in fault_in if_else
  marks =
      let d : marks_in w / 32 % 4 ≡ 0 = omega arith in
      let e : marks_in w / 4 % 8 ≡ 0 = omega arith in
      let f : marks_in w / 128 % 2 ≡ 0 = omega arith in
      let g : marks_in w / 256 % 2 ≡ 0 = omega arith in
      let h : marks_in w / 512 ≡ 0 = omega arith in
      rw (d, e, f, g, h) (let l = low (marks_in w) few in omega (arith, l))

  zeros : (i : ℕ) → i < 9 → get_or w i 0 ≡ get_or no_words i 0
  unfolding spare_set
  zeros i h = let q = none_any 9 (differ_at w no_words) spare i h in eqb-true (get_or w i 0) (get_or no_words i 0) (not-false (eqb (get_or w i 0) (get_or no_words i 0)) q)

  module _ (framing : get_or w 11 0 ≤ 255) (taken : get_or w 13 0 ≤ 4294967295) (last : get_or w 14 0 ≤ 4294967296) (stamp : get_or w 17 0 ≤ 4294967296) (layer : get_or w 18 0 ≡ 0) where
    same : (i : ℕ) → i < 19 → get_or w i 0 ≡ get_or (words_of (rest_in w)) i 0
    unfolding words_of rest_in
    same zero h = zeros 0 (omega arith)
    same (suc zero) h = zeros 1 (omega arith)
    same (suc (suc zero)) h = zeros 2 (omega arith)
    same (suc (suc (suc zero))) h = zeros 3 (omega arith)
    same (suc (suc (suc (suc zero)))) h = zeros 4 (omega arith)
    same (suc (suc (suc (suc (suc zero))))) h = zeros 5 (omega arith)
    same (suc (suc (suc (suc (suc (suc zero)))))) h = zeros 6 (omega arith)
    same (suc (suc (suc (suc (suc (suc (suc zero))))))) h = zeros 7 (omega arith)
    same (suc (suc (suc (suc (suc (suc (suc (suc zero)))))))) h = zeros 8 (omega arith)
    same (suc (suc (suc (suc (suc (suc (suc (suc (suc zero))))))))) h = refl
    same (suc (suc (suc (suc (suc (suc (suc (suc (suc (suc zero)))))))))) h = refl
    same (suc (suc (suc (suc (suc (suc (suc (suc (suc (suc (suc zero))))))))))) h = let q : get_or w 11 0 ≡ get_or w 11 0 % 256 = omega arith in q
    same (suc (suc (suc (suc (suc (suc (suc (suc (suc (suc (suc (suc zero)))))))))))) h = sym marks
    same (suc (suc (suc (suc (suc (suc (suc (suc (suc (suc (suc (suc (suc zero))))))))))))) h = let q : get_or w 13 0 ≡ get_or w 13 0 % 4294967296 = omega arith in q
    same (suc (suc (suc (suc (suc (suc (suc (suc (suc (suc (suc (suc (suc (suc zero)))))))))))))) h = sym (stamp-same (get_or w 14 0) last)
    same (suc (suc (suc (suc (suc (suc (suc (suc (suc (suc (suc (suc (suc (suc (suc zero))))))))))))))) h = sym (ap (λ (p : Phase). (run_of p).bytes) under)
    same (suc (suc (suc (suc (suc (suc (suc (suc (suc (suc (suc (suc (suc (suc (suc (suc zero)))))))))))))))) h = sym (ap (λ (p : Phase). (run_of p).fill) under)
    same (suc (suc (suc (suc (suc (suc (suc (suc (suc (suc (suc (suc (suc (suc (suc (suc (suc zero))))))))))))))))) h = sym (ap (λ (p : Phase). stamp_word (run_of p).stamp) under ∙ stamp-same (get_or w 17 0) stamp)
    same (suc (suc (suc (suc (suc (suc (suc (suc (suc (suc (suc (suc (suc (suc (suc (suc (suc (suc zero)))))))))))))))))) h = sym (ap (λ (p : Phase). layer_word (run_of p).layer) under ∙ layer-same (get_or w 18 0) layer)
    same (suc (suc (suc (suc (suc (suc (suc (suc (suc (suc (suc (suc (suc (suc (suc (suc (suc (suc (suc i))))))))))))))))))) h = absurd (omega arith)

    form : other_form w ≡ false
    unfolding other_form
    form = any_none 19 (differ_at w (words_of (rest_in w))) (λ k h. no_difference w (words_of (rest_in w)) k (same k h))

    pub plainly : read_of w ≡ Laid (rest_in w)
    unfolding read_of if_else
    plainly = rw (spare, form)
