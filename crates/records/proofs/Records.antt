-- The records of a trace, one by one.
use Prim.Native.Nat.{ℕ, zero, suc, ◌*◌, ◌≤◌, ◌<◌}
use mathlib.Core.Path.{◌≡◌, refl, sym, ap, ◌∙◌}
use mathlib.Core.List.{List, [], ◌∷◌, ◌++◌}
use native.Mathlib.Omega.{arith}
use lib.ListN.{length, take, drop, length-append, length-drop}
use lib.Seq.{take-append-le, drop-append-le}
use Rattle.rules.proofs.Lists.{no-elements}
use Rattle.records.specs.declared.Form.{Form}
use Rattle.records.specs.declared.Form.TheVariants.{Short, Long}
use Rattle.records.specs.Form.{size_of}
use Rattle.records.specs.Record.{records_by, records_of}

pub some_size : (f : Form) → 0 < size_of f
some_size Short = omega arith
some_size Long = omega arith

module _ (f : Form) where
  enough : (j k : ℕ) (l : List ℕ) → length l ≤ j → length l ≤ k → records_by f j l ≡ records_by f k l
  enough zero zero l a b = refl
  enough zero (suc k) [] a b = refl
  enough zero (suc k) (x ∷ l) a b = absurd (omega arith)
  enough (suc j) zero [] a b = refl
  enough (suc j) zero (x ∷ l) a b = absurd (omega arith)
  enough (suc j) (suc k) [] a b = refl
  enough (suc j) (suc k) (x ∷ l) a b =
      let n = length-drop (size_of f) (x ∷ l) in
      let z = some_size f in
      ap (take (size_of f) (x ∷ l) ∷◌) (enough j k (drop (size_of f) (x ∷ l)) (omega (arith, n, z)) (omega (arith, n, z)))

  pub records-none : records_of f [] ≡ []
  unfolding records_of
  records-none = refl

  pub records-more : (l : List ℕ) → 0 < length l → records_of f l ≡ take (size_of f) l ∷ records_of f (drop (size_of f) l)
  unfolding records_of
  records-more [] h = absurd (omega arith)
  records-more (x ∷ l) h =
      let n = length-drop (size_of f) (x ∷ l) in
      let z = some_size f in
      ap (take (size_of f) (x ∷ l) ∷◌)
      (enough (length l) (length (drop (size_of f) (x ∷ l))) (drop (size_of f) (x ∷ l)) (omega (arith, n, z)) (omega arith))

  -- the records of k whole ones and of what comes after them
  pub records-append : (k : ℕ) (xs ys : List ℕ) → length xs ≡ k * size_of f → records_of f (xs ++ ys) ≡ records_of f xs ++ records_of f ys
  unfolding records_of
  records-append zero xs ys e = rw (no-elements xs (omega arith))
  records-append (suc k) xs ys e =
      let z : size_of f ≤ length xs = omega arith in
      let p = some_size f in
      records-more (xs ++ ys) (omega (arith, length-append xs ys, p))
      ∙ ap (◌∷ records_of f (drop (size_of f) (xs ++ ys))) (take-append-le (size_of f) xs ys z)
      ∙ ap (λ (l : List ℕ). take (size_of f) xs ∷ records_of f l) (drop-append-le (size_of f) xs ys z)
      ∙ ap (take (size_of f) xs ∷◌) (records-append k (drop (size_of f) xs) ys (omega (arith, length-drop (size_of f) xs)))
      ∙ sym (ap (◌++ records_of f ys) (records-more xs (omega (arith, p))))
