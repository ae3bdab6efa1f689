-- A list that gains one element: what holds of each element, with its place and with those before it, and of the new one, holds of each.
use Prim.Native.Nat.{ℕ, ◌+◌, ◌≤◌, ◌<◌}
use mathlib.Core.Path.{◌≡◌, refl, ap, ◌∙◌}
use mathlib.Core.List.{List, [], ◌∷◌, ◌++◌}
use mathlib.Core.Logic.{⊎_elim}
use lib.ListN.{length, get_or, take, length-append, get_or-append}
use lib.Seq.{get_or-append-add, take-append-le, take_at}
use native.Mathlib.Omega.{arith}
use Rattle.rules.proofs.Firsts.{lt-or-ge}

module _ {A : Type 0} (d : A) (l : List A) (x : A) where
  pub at_old : (i : ℕ) → i < length l → get_or (l ++ (x ∷ [])) i d ≡ get_or l i d
  at_old i h = get_or-append l (x ∷ []) d i h

  at_last : get_or (l ++ (x ∷ [])) (length l + 0) d ≡ x
  at_last = get_or-append-add l (x ∷ []) 0 d

  pub is_last : (i : ℕ) → length l ≤ i → i < length (l ++ (x ∷ [])) → i ≡ length l
  is_last i h k = omega (arith, simp length-append at k)

  pub at_new : (i : ℕ) → length l ≤ i → i < length (l ++ (x ∷ [])) → get_or (l ++ (x ∷ [])) i d ≡ x
  at_new i h k =
      let e : i ≡ length l + 0 = omega (arith, is_last i h k) in
      ap (λ (n : ℕ). get_or (l ++ (x ∷ [])) n d) e ∙ at_last

  pub each_more : (P : ℕ → List A → A → Type 0) → ((i : ℕ) → i < length l → P i (take i l) (get_or l i d)) → P (length l) l x
      → (i : ℕ) → i < length (l ++ (x ∷ [])) → P i (take i (l ++ (x ∷ []))) (get_or (l ++ (x ∷ [])) i d)
  each_more P h p i k = ⊎_elim old new (lt-or-ge i (length l))
    where
      old : i < length l → P i (take i (l ++ (x ∷ []))) (get_or (l ++ (x ∷ [])) i d)
      old a = rw (at_old i a, take-append-le i l (x ∷ []) (omega arith)) (h i a)

      new : length l ≤ i → P i (take i (l ++ (x ∷ []))) (get_or (l ++ (x ∷ [])) i d)
      new a = let e : i ≡ length l = is_last i a k in rw (at_new i a k, e, take_at l (x ∷ []) (length l) refl) p
