-- Tests that antt computes, of one place after the other.
use mathlib.Core.Path.{◌≡◌, refl, ap}
use mathlib.Core.Bool.{Bool, true, false}
use mathlib.Core.List.{List, [], ◌∷◌}
use Prim.Native.Nat.{ℕ, zero, suc, ◌<◌}
use native.Mathlib.Nat.{not-suc-le-zero, le_of_suc-le-suc}
use lib.Dec.{T, eqb, eqb→eq}

abbrev pub both : Bool → Bool → Bool
both true b = b
both false b = false

pub both_left : (a b : Bool) → T (both a b) → T a
both_left true b t = tt
both_left false b t = t

pub both_right : (a b : Bool) → T (both a b) → T b
both_right true b t = t
both_right false b t = absurd t

-- the test f passes at each place below k
abbrev pub every : (ℕ → Bool) → ℕ → Bool
every f zero = true
every f (suc k) = both (f zero) (every (λ i. f (suc i)) k)

pub below : (f : ℕ → Bool) (k : ℕ) → T (every f k) → (i : ℕ) → i < k → T (f i)
below f zero t i h = absurd (not-suc-le-zero h)
below f (suc k) t zero h = both_left (f zero) (every (λ i. f (suc i)) k) t
below f (suc k) t (suc i) h = below (λ j. f (suc j)) k (both_right (f zero) (every (λ i. f (suc i)) k) t) i (le_of_suc-le-suc h)

abbrev pub equal : List ℕ → List ℕ → Bool
equal [] [] = true
equal [] (y ∷ ys) = false
equal (x ∷ xs) [] = false
equal (x ∷ xs) (y ∷ ys) = both (eqb x y) (equal xs ys)

pub equal→eq : (xs ys : List ℕ) → T (equal xs ys) → xs ≡ ys
equal→eq [] [] t = refl
equal→eq [] (y ∷ ys) t = absurd t
equal→eq (x ∷ xs) [] t = absurd t
equal→eq (x ∷ xs) (y ∷ ys) t =
    rw (eqb→eq x y (both_left (eqb x y) (equal xs ys) t)) (ap (λ (l : List ℕ). y ∷ l) (equal→eq xs ys (both_right (eqb x y) (equal xs ys) t)))
