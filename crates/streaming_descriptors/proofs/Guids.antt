-- Bytes are the same by the test exactly when they are the same list; and which sort of GUID that gives.
use Prim.Native.Nat.{ℕ, ◌+◌, ◌-◌}
use mathlib.Core.Path.{◌≡◌, refl, sym, ◌∙◌}
use mathlib.Core.List.{List, [], ◌∷◌}
use mathlib.Core.Bool.{Bool, true, false, true≢false}
use mathlib.Core.Logic.{◌↔◌}
use lib.ListN.{take, drop}
use lib.Dec.{eqb}
use borrow.Author.Tests.{eq-eqb, eqb-true}
use native.Mathlib.Omega.{arith}
use Rattle.rules.specs.IfElse.{if_else}
use Rattle.rules.proofs.Rows.{and_first, and_second}
use Rattle.streaming_descriptors.specs.Descriptors.{same_bytes, sort_of, guid_at, yuy2, nv12}

same_of : (l m : List ℕ) → same_bytes l m ≡ true → l ≡ m
unfolding same_bytes
same_of [] [] h = refl
same_of [] (y ∷ m) h = absurd (true≢false (sym h))
same_of (x ∷ l) [] h = absurd (true≢false (sym h))
same_of (x ∷ l) (y ∷ m) h = let e = eqb-true x y (and_first (eqb x y) (same_bytes l m) h) in let r = same_of l m (and_second (eqb x y) (same_bytes l m) h) in cc

same_self : (l : List ℕ) → same_bytes l l ≡ true
unfolding same_bytes
same_self [] = refl
same_self (x ∷ l) = rw (eq-eqb x x refl) (same_self l)

pub same_bytes_lem : (l m : List ℕ) → (same_bytes l m ≡ true) ↔ (l ≡ m)
same_bytes_lem l m = (same_of l m, λ e. rw e (same_self m))

-- what a callee says that compares two lists
abbrev Compares : Bool → List ℕ → List ℕ → Type 0
Compares r l m = (r ≡ true → l ≡ m) × (l ≡ m → r ≡ true)

differ : (r : Bool) (l m : List ℕ) → Compares r l m → r ≡ false → same_bytes l m ≡ false
differ r l m h e = go (same_bytes l m) refl
  where
    go : (b : Bool) → same_bytes l m ≡ b → b ≡ false
    go false q = refl
    go true q = absurd (true≢false (sym (h.1 (same_of l m q)) ∙ e))

module _ (g l : List ℕ) (e : l ≡ g) (r : Bool) (c : Compares r l yuy2) where
  pub is-yuy2 : r ≡ true → 1 ≡ sort_of g
  unfolding sort_of if_else same_bytes
  is-yuy2 h = rw (← e, c.0 h)

  module _ (q : Bool) (d : Compares q l nv12) (n : r ≡ false) where
    pub is-nv12 : q ≡ true → 2 ≡ sort_of g
    unfolding sort_of if_else same_bytes
    is-nv12 h = rw (← e, d.0 h)

    pub is-other : q ≡ false → 3 ≡ sort_of g
    unfolding sort_of if_else
    is-other h = rw (← e, differ r l yuy2 c n, differ q l nv12 d h)

-- the part of the descriptor that is its GUID
pub part : (s : List ℕ) (o : ℕ) → take (o + 21 - (o + 5)) (drop (o + 5) s) ≡ guid_at s o
part s o = let e : o + 21 - (o + 5) ≡ 16 = omega arith in rw e
