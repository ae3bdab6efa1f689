-- ONE LAW FOR EVERY LOOP THAT PRINTS: nothing yet, one thing more, all of them. And a line of its pieces.
use mathlib.Core.Path.{◌≡◌, refl, sym}
use mathlib.Core.List.{List, [], ◌∷◌, ◌++◌, append_assoc, append-nil}
use Prim.Native.Nat.{ℕ, ◌+◌, ◌≤◌, ◌<◌}
use native.Mathlib.Numerals.{add-one}
use native.Mathlib.Omega.{arith}
use lib.ListN.{length, take, get_or}
use lib.Seq.{take-suc, take_all, paste-zero}
use Rattle.text.specs.Put.{Put}
use Rattle.text.specs.Text.{texts, numbers, line}
use Rattle.text.proofs.Puts.{then}

-- nothing yet
pub none : (old : List ℕ) (at : ℕ) → at ≤ length old → Put old at [] at old
none old at h = record { next = omega arith; fits = h; bytes = paste-zero old at []; size = refl }

pub texts-more : {A : Type 0} (f : A → List ℕ) (xs : List A) (x : A) → texts f (xs ++ (x ∷ [])) ≡ texts f xs ++ f x
texts-more f [] x = append-nil (f x)
texts-more f (y ∷ xs) x = rw (texts-more f xs x) (sym (append_assoc (f y) (texts f xs) (f x)))

-- one thing more
pub turn : {A : Type 0} (f : A → List ℕ) (d : A) (xs : List A) (i : ℕ) {old mid new : List ℕ} {at m r : ℕ}
    → i < length xs → Put old at (texts f (take i xs)) m mid → Put mid m (f (get_or xs i d)) r new → Put old at (texts f (take (i + 1) xs)) r new
turn f d xs i h p q = rw (add-one i, take-suc xs i d h, texts-more f (take i xs) (get_or xs i d)) (then p q)

-- all of them
pub full : {A : Type 0} (f : A → List ℕ) (xs : List A) (i : ℕ) {old new : List ℕ} {at r : ℕ} → length xs ≤ i → Put old at (texts f (take i xs)) r new → Put old at (texts f xs) r new
full f xs i h p = rw (take_all i xs h) at p

-- a name, its numbers, the line's end
pub lined : (ns : List ℕ) {old name a b new : List ℕ} {at m k r : ℕ}
    → Put old at name m a → Put a m (numbers ns) k b → Put b k (10 ∷ []) r new → Put old at (line name ns) r new
lined ns p q e = then p (then q e)
