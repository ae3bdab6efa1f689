-- The records of a stream: the first is its first n bytes, and those of whole records and of what comes after them are theirs together.
use Prim.Native.Nat.{ℕ, zero, suc, ◌*◌, ◌≤◌, ◌<◌}
use mathlib.Core.Path.{◌≡◌, refl, sym, ap, ◌∙◌}
use mathlib.Core.List.{List, [], ◌∷◌, ◌++◌}
use native.Mathlib.Omega.{arith}
use lib.ListN.{length, take, drop, length-append, length-drop}
use lib.Seq.{take-append-le, drop-append-le}
use Rattle.rules.proofs.Lists.{no-elements}
use Rattle.cuts.specs.Cuts.{cut_by, cut_of}

module _ (n : ℕ) (pos : 0 < n) where
  -- any count that is enough for the bytes
  enough : (j k : ℕ) (l : List ℕ) → length l ≤ j → length l ≤ k → cut_by n j l ≡ cut_by n k l
  enough zero zero [] a b = refl
  enough zero (suc k) [] a b = refl
  enough (suc j) zero [] a b = refl
  enough (suc j) (suc k) [] a b = refl
  enough zero k (x ∷ l) a b = absurd (omega arith)
  enough (suc j) zero (x ∷ l) a b = absurd (omega arith)
  enough (suc j) (suc k) (x ∷ l) a b =
      let e = length-drop n (x ∷ l) in
      ap (take n (x ∷ l) ∷◌) (enough j k (drop n (x ∷ l)) (omega (arith, e, pos)) (omega (arith, e, pos)))

  pub cut-first : (l : List ℕ) → 0 < length l → cut_of n l ≡ take n l ∷ cut_of n (drop n l)
  unfolding cut_of
  cut-first [] h = absurd (omega arith)
  cut-first (x ∷ l) h =
      let e = length-drop n (x ∷ l) in
      ap (take n (x ∷ l) ∷◌) (enough (length l) (length (drop n (x ∷ l))) (drop n (x ∷ l)) (omega (arith, e, pos)) (omega arith))

  pub cut-append : (k : ℕ) (xs ys : List ℕ) → length xs ≡ k * n → cut_of n (xs ++ ys) ≡ cut_of n xs ++ cut_of n ys
  unfolding cut_of
  cut-append zero xs ys e = rw (no-elements xs (omega arith))
  cut-append (suc k) xs ys e =
      let z : n ≤ length xs = omega (arith, e) in
      let d : length (drop n xs) ≡ k * n = omega (arith, e, length-drop n xs) in
      cut-first (xs ++ ys) (omega (arith, length-append xs ys, pos))
      ∙ ap (◌∷ cut_of n (drop n (xs ++ ys))) (take-append-le n xs ys z)
      ∙ ap (λ (l : List ℕ). take n xs ∷ cut_of n l) (drop-append-le n xs ys z)
      ∙ ap (take n xs ∷◌) (cut-append k (drop n xs) ys d)
      ∙ sym (ap (◌++ cut_of n ys) (cut-first xs (omega (arith, pos))))
