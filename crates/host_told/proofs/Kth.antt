-- What is told of the k-th of the first n of a list.
use Prim.Native.Nat.{ℕ, zero, suc, ◌≤◌, ◌<◌}
use mathlib.Core.Path.{◌≡◌, refl, ◌∙◌}
use mathlib.Core.List.{List, [], ◌∷◌}
use lib.ListN.{length, take, get_or}
use native.Mathlib.Omega.{arith}
use Rattle.host_told.specs.Told.{kth}

module _ {A B : Type 0} (none : B) (told : A → B) where
  past-count-none : (n k : ℕ) (l : List A) → n ≤ k → none ≡ kth none told (take n l) k
  unfolding kth
  past-count-none zero k l h = refl
  past-count-none (suc n) k [] h = refl
  past-count-none (suc n) zero (x ∷ l) h = absurd (omega arith)
  past-count-none (suc n) (suc k) (x ∷ l) h = past-count-none n k l (omega arith)

  past-end-none : (n k : ℕ) (l : List A) → length l ≤ k → none ≡ kth none told (take n l) k
  unfolding kth
  past-end-none zero k l h = refl
  past-end-none (suc n) k [] h = refl
  past-end-none (suc n) zero (x ∷ l) h = absurd (omega arith)
  past-end-none (suc n) (suc k) (x ∷ l) h = past-end-none n k l (omega arith)

  there-told : (n k : ℕ) (l : List A) (d : A) → k < n → k < length l → told (get_or l k d) ≡ kth none told (take n l) k
  unfolding kth
  there-told zero k l d h i = absurd (omega arith)
  there-told (suc n) k [] d h i = absurd (omega arith)
  there-told (suc n) zero (x ∷ l) d h i = refl
  there-told (suc n) (suc k) (x ∷ l) d h i = there-told n k l d (omega arith) (omega arith)

  module _ (r : B) (n k : ℕ) (l : List A) where
    pub past-count : r ≡ none → n ≤ k → r ≡ kth none told (take n l) k
    past-count e h = e ∙ past-count-none n k l h

    pub past_end : (m : ℕ) → r ≡ none → length l ≡ m → m ≤ k → r ≡ kth none told (take n l) k
    past_end m e f h = e ∙ past-end-none n k l (omega arith)

    pub is-there : (d : A) → r ≡ told (get_or l k d) → k < n → k < length l → r ≡ kth none told (take n l) k
    is-there d e h i = e ∙ there-told n k l d h i
