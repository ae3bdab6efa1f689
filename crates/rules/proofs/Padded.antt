-- A padded table: one element more is a store at the first unused place.
use Prim.Native.Nat.{ℕ, suc, ◌+◌, ◌-◌, ◌≤◌, ◌<◌}
use mathlib.Core.Path.{◌≡◌, sym, ap, ◌∙◌}
use mathlib.Core.List.{List, [], ◌∷◌, ◌++◌}
use lib.ListN.{length, set, replicate, get_or, length-append, length-replicate, get_or-replicate, get_or-append, get_or-eq_default}
use lib.Seq.{set-append_seam, append_snoc, get_or-append-add}
use native.Mathlib.Omega.{arith}
use mathlib.Core.Logic.{⊎_elim}
use Rattle.rules.specs.Pad.{pad}
use Rattle.rules.proofs.Firsts.{lt-or-ge}

module _ {A : Type 0} where
  replicate-pos : (k m : ℕ) (z : A) → m ≡ suc k → replicate m z ≡ z ∷ replicate k z
  replicate-pos k m z e = rw e

  pub pad-set : (n : ℕ) (z : A) (l : List A) (a : A) → length l < n → set (pad n z l) (length l) a ≡ pad n z (l ++ (a ∷ []))
  pad-set n z l a h =
      let e : n - length l ≡ suc (n - (length l + 1)) = omega arith in
      rw (replicate-pos (n - (length l + 1)) (n - length l) z e, set-append_seam, length-append) (sym (append_snoc l a (replicate (n - (length l + 1)) z)))

  pub pad-length : (n : ℕ) (z : A) (l : List A) → length l ≤ n → length (pad n z l) ≡ n
  pad-length n z l h = simp (length-append, length-replicate) (omega arith)

  replicate-any : (n k : ℕ) (z : A) → get_or (replicate n z) k z ≡ z
  replicate-any n k z = ⊎_elim (λ h. get_or-replicate n k z z h) (λ h. get_or-eq_default (replicate n z) z (simp length-replicate h)) (lt-or-ge k n)

  -- the table reads as the list does, at every place
  pub pad-at : (n : ℕ) (z : A) (l : List A) (i : ℕ) → get_or (pad n z l) i z ≡ get_or l i z
  pad-at n z l i =
      ⊎_elim (λ h. get_or-append l (replicate (n - length l) z) z i h)
      (λ h. let e : i ≡ length l + (i - length l) = omega arith in
      ap (λ (k : ℕ). get_or (pad n z l) k z) e ∙ get_or-append-add l (replicate (n - length l) z) (i - length l) z ∙ replicate-any (n - length l) (i - length l) z ∙ sym (get_or-eq_default l z h))
      (lt-or-ge i (length l))
