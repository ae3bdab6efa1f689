-- CHUNK BY CHUNK, as the library gives them: what is left begins with a chunk of n elements, or is one. It is the first n of them, and the others come after it.
use Rattle.std.proofs.Common.{min, append-nil}
use Rattle.std.proofs.Math.Nat.{min-eq_left, min-eq_right}
use Prim.Native.Nat.{ℕ, ◌+◌, ◌≤◌, ◌<◌}
use mathlib.Core.Path.{◌≡◌, refl, sym, ap, ◌∙◌}
use mathlib.Core.Bool.{Bool, true, false}
use mathlib.Core.List.{List, [], ◌++◌}
use native.Mathlib.Omega.{arith}
use lib.ListN.{length, take, drop, length-append, length-drop}
use lib.Seq.{take_all, take_at, drop_at}
use lib.Dec.{ltb}
use borrow.Author.Tests.{ltb-true, ltb-false}
use Rattle.rules.proofs.Lists.{no-elements}

module _ (n : ℕ) (rest x more : List ℕ) (e : rest ≡ x ++ more) (size : length x ≡ min n (length rest)) where
  both : length rest ≡ length x + length more
  both = ap length e ∙ length-append x more

  whole : n ≤ length rest → length x ≡ n
  whole h = size ∙ min-eq_left h

  all : length rest < n → length x ≡ length rest
  all h = size ∙ min-eq_right (omega (arith, h))

  pub chunk-parts : (take n rest ≡ x) × (drop n rest ≡ more)
  chunk-parts = go (ltb (length rest) n) refl
    where
      go : (b : Bool) → ltb (length rest) n ≡ b → (take n rest ≡ x) × (drop n rest ≡ more)
      go false q =
          let m = whole (ltb-false (length rest) n q) in
          (ap (take n) e ∙ take_at x more n m, ap (drop n) e ∙ drop_at x more n m)
      go true q =
          let h = ltb-true (length rest) n q in
          let none : more ≡ [] = no-elements more (omega (arith, all h, both)) in
          let is : rest ≡ x = e ∙ ap (λ (l : List ℕ). x ++ l) none ∙ append-nil x in
          (take_all n rest (omega (arith, h)) ∙ is, no-elements (drop n rest) (omega (arith, length-drop n rest, h)) ∙ sym none)

  -- where elements come after it, it has all n
  pub chunk-whole : 0 < length more → length x ≡ n
  chunk-whole some = go (ltb (length rest) n) refl
    where
      go : (b : Bool) → ltb (length rest) n ≡ b → length x ≡ n
      go true q = absurd (omega (arith, all (ltb-true (length rest) n q), both, some))
      go false q = whole (ltb-false (length rest) n q)
