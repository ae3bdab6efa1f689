-- ONE READ: it waits, or it fills the piece; then its whole records go straight from the input, and what is left over waits.
use Prim.Native.Nat.{ℕ, ◌+◌, ◌-◌, ◌*◌, ◌/◌, ◌≤◌, ◌<◌}
use mathlib.Core.Path.{◌≡◌, refl, sym, ap, subst, ◌∙◌}
use mathlib.Core.Bool.{Bool, true, false}
use mathlib.Core.List.{List, [], ◌++◌, append_assoc}
use native.Mathlib.Omega.{arith}
use lib.ListN.{length, take, drop, length-drop, take-append-drop}
use lib.Seq.{paste, take_all, take-add, length-take-le, length-paste}
use lib.Dec.{ltb}
use borrow.Author.Tests.{ltb-true, ltb-false}
use Rattle.rules.specs.IfElse.{if_else}
use Rattle.cuts.specs.Cuts.{cut_of, After, Folds, least_of}
use Rattle.cuts.proofs.Branches.{stop, stop-after, stop-whole, stop-left}
use Rattle.cuts.proofs.Goes.{waits, fills, goes}

-- the lesser of two is one of them
pub least-bounds : (a b : ℕ) → (least_of a b ≤ a) × (least_of a b ≤ b)
unfolding if_else
least-bounds a b = go (ltb a b) refl
  where
    go : (c : Bool) → ltb a b ≡ c → (if_else c a b ≤ a) × (if_else c a b ≤ b)
    go true e = let h = ltb-true a b e in (omega arith, omega arith)
    go false e = let h = ltb-false a b e in (omega arith, omega arith)

least-short : (a b : ℕ) → least_of a b < b → least_of a b ≡ a
unfolding if_else
least-short a b h = go (ltb a b) refl h
  where
    go : (c : Bool) → ltb a b ≡ c → if_else c a b < b → if_else c a b ≡ a
    go true e l = refl
    go false e l = absurd (omega arith)

module _ {A : Type 0} (n : ℕ) (pos : 0 < n) (over : A → List (List ℕ) → A) (folds : Folds over) (none : (a : A) → over a [] ≡ a) where
  module _ (a : A) (bytes : List ℕ) (x : A) (have : ℕ) (piece : List ℕ) (u : After n over a bytes x have piece) (size : length piece ≡ n) (input : List ℕ) where
    abbrev k : ℕ
    k = least_of (length input) (length piece - have)

    fits : k ≤ length input
    fits = (least-bounds (length input) (length piece - have)).0

    abbrev P : List ℕ
    P = paste piece have (take k input) k

    same-piece : paste piece have (take k input) (length (take k input)) ≡ P
    same-piece = ap (paste piece have (take k input)) (length-take-le k input fits)

    pub feed-waits : have + k < n → After n over a (bytes ++ input) x (have + k) P
    feed-waits h =
        let e : k ≡ length input = least-short (length input) (length piece - have) (omega (arith, size)) in
        let q : take k input ≡ input = take_all k input (omega (arith, e)) in
        let w = waits n pos over folds none a bytes x have piece u (take k input) size (omega (arith, length-take-le k input fits)) in
        subst (λ (l : List ℕ). After n over a (bytes ++ l) x (have + k) P) q
        (subst (λ (m : ℕ). After n over a (bytes ++ take k input) x (have + m) P) (length-take-le k input fits)
        (subst (λ (p : List ℕ). After n over a (bytes ++ take k input) x (have + length (take k input)) p) same-piece w))

    pub feed-fills : n ≤ have + k → have < n → After n over a (bytes ++ take k input) (over x (cut_of n P)) 0 P
    feed-fills h g =
        let b = (least-bounds (length input) (length piece - have)).1 in
        subst (λ (p : List ℕ). After n over a (bytes ++ take k input) (over x (cut_of n p)) 0 p) same-piece
        (fills n pos over folds none a bytes x have piece u (take k input) size (omega (arith, length-take-le k input fits, size, b)))

    pub feed-size : have < n → length P ≡ n
    feed-size g =
        let b = (least-bounds (length input) (length piece - have)).1 in
        length-paste piece have (take k input) k (omega (arith, b, size)) (omega (arith, length-take-le k input fits)) ∙ size

  -- whole records from `from` on, and what is left over
  module _ (a : A) (bytes input : List ℕ) (x : A) (piece : List ℕ) (from : ℕ) (within : from ≤ length input)
      (u : After n over a (bytes ++ take from input) x 0 piece) (size : length piece ≡ n) where
    abbrev to : ℕ
    to = stop n from (length input) pos within

    abbrev part : List ℕ
    part = take (to - from) (drop from input)

    abbrev rest : List ℕ
    rest = take (length input - to) (drop to input)

    abbrev j : ℕ
    j = least_of (length rest) (length piece - 0)

    to-within : to ≤ length input
    to-within = omega arith

    part-size : length part ≡ (length input - from) / n * n
    part-size = length-take-le (to - from) (drop from input) (omega (arith, length-drop from input, stop-after n from (length input) pos within)) ∙ stop-whole n from (length input) pos within

    rest-size : length rest ≡ length input - to
    rest-size = length-take-le (length input - to) (drop to input) (omega (arith, length-drop to input))

    upto : take from input ++ part ≡ take to input
    upto = sym (take-add from (to - from) input) ∙ ap (λ (m : ℕ). take m input) (ends (stop-after n from (length input) pos within))
      where
        ends : from ≤ to → from + (to - from) ≡ to
        ends h = omega arith

    whole-input : take to input ++ rest ≡ input
    whole-input = ap (take to input ++◌) (take_all (length input - to) (drop to input) (omega (arith, length-drop to input))) ∙ take-append-drop to input

    pub feed-goes : After n over a (bytes ++ take to input) (over x (cut_of n part)) 0 piece
    feed-goes =
        subst (λ (l : List ℕ). After n over a l (over x (cut_of n part)) 0 piece) (append_assoc bytes (take from input) part ∙ ap (bytes ++◌) upto)
        (goes n pos over folds none a (bytes ++ take from input) x 0 piece u ((length input - from) / n) part piece refl part-size)

    pub feed-rest : After n over a (bytes ++ input) (over x (cut_of n part)) j (paste piece 0 (take j rest) j)
    feed-rest =
        let l = stop-left n from (length input) pos within in
        let b = (least-bounds (length rest) (length piece - 0)).0 in
        subst (λ (l : List ℕ). After n over a l (over x (cut_of n part)) j (paste piece 0 (take j rest) j)) (append_assoc bytes (take to input) rest ∙ ap (bytes ++◌) whole-input)
        (subst (λ (m : ℕ). After n over a ((bytes ++ take to input) ++ rest) (over x (cut_of n part)) m (paste piece 0 (take j rest) j)) front
        (feed-waits a (bytes ++ take to input) (over x (cut_of n part)) 0 piece feed-goes size rest (omega (arith, b, rest-size, l))))
      where
        front : 0 + j ≡ j
        front = omega arith
