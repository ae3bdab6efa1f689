-- How a reader goes on: its piece fills up, whole records go straight from the input, the rest waits; and what it has at the end.
use Prim.Native.Nat.{ℕ, suc, ◌+◌, ◌*◌, ◌<◌}
use mathlib.Core.Path.{◌≡◌, refl, sym, ap, ◌∙◌}
use mathlib.Core.List.{List, [], ◌∷◌, ◌++◌, append_assoc, append-nil}
use native.Mathlib.Omega.{arith}
use lib.ListN.{length, take, length-append}
use lib.Seq.{paste, take-paste, take_all, length-paste}
use Rattle.cuts.specs.Cuts.{cut_of, After, Folds}
use Rattle.cuts.proofs.Cut.{cut-append}

module _ {A : Type 0} (n : ℕ) (pos : 0 < n) (over : A → List (List ℕ) → A) (folds : Folds over) (none : (a : A) → over a [] ≡ a) where
  -- no bytes yet
  pub after_none : (a : A) (piece : List ℕ) → After n over a [] a 0 piece
  unfolding cut_of
  after_none a piece = record {
    many = 0;
    whole = [];
    left = [];
    all = refl;
    full = omega arith;
    short = pos;
    read = sym (none a);
    have₀ = refl;
    kept = refl;
  }

  module _ (a : A) (bytes : List ℕ) (x : A) (have : ℕ) (piece : List ℕ) (u : After n over a bytes x have piece) where
    pub under : have < n
    under = omega (arith, u.have₀, u.short)

    -- THE END OF THE INPUT: what waits is the last record
    pub at-end : over x (cut_of n (take have piece)) ≡ over a (cut_of n bytes)
    at-end =
        ap (λ (l : List ℕ). over x (cut_of n l)) u.kept
        ∙ ap (λ (y : A). over y (cut_of n u.left)) u.read
        ∙ sym (folds a (cut_of n u.whole) (cut_of n u.left))
        ∙ ap (over a) (sym (cut-append n pos u.many u.whole u.left u.full))
        ∙ ap (λ (l : List ℕ). over a (cut_of n l)) (sym u.all)

    -- some bytes more that do not fill the piece
    pub waits : (more : List ℕ) → length piece ≡ n → have + length more < n → After n over a (bytes ++ more) x (have + length more) (paste piece have more (length more))
    waits more size h = record {
      many = u.many;
      whole = u.whole;
      left = u.left ++ more;
      all = ap (◌++ more) u.all ∙ append_assoc u.whole u.left more;
      full = u.full;
      short = omega (arith, length-append u.left more, u.have₀, h);
      read = u.read;
      have₀ = omega (arith, length-append u.left more, u.have₀);
      kept = take-paste piece have more (length more) (omega arith) (omega arith) ∙ ap (take have piece ++◌) (take_all (length more) more (omega arith)) ∙ ap (◌++ more) u.kept;
    }

    -- some bytes more that make the record in the piece whole
    pub fills : (more : List ℕ) → length piece ≡ n → have + length more ≡ n → After n over a (bytes ++ more) (over x (cut_of n (paste piece have more (length more)))) 0 (paste piece have more (length more))
    unfolding cut_of
    fills more size h =
        let P : List ℕ = paste piece have more (length more) in
        let len : length P ≡ length piece = length-paste piece have more (length more) (omega arith) (omega arith) in
        let is : P ≡ u.left ++ more =
        sym (take_all (have + length more) P (omega (arith, len))) ∙ take-paste piece have more (length more) (omega arith) (omega arith)
        ∙ ap (take have piece ++◌) (take_all (length more) more (omega arith)) ∙ ap (◌++ more) u.kept in
        whole-more P (u.whole ++ P) (ap (◌++ more) u.all ∙ append_assoc u.whole u.left more ∙ ap (u.whole ++◌) (sym is)) (len ∙ size) P
      where
        whole-more : (P W : List ℕ) → bytes ++ more ≡ u.whole ++ P → length P ≡ n → (Q : List ℕ) → After n over a (bytes ++ more) (over x (cut_of n P)) 0 Q
        whole-more P W e l Q = record {
          many = suc u.many;
          whole = u.whole ++ P;
          left = [];
          all = e ∙ sym (append-nil (u.whole ++ P));
          full = omega (arith, length-append u.whole P, u.full, l);
          short = pos;
          read = ap (λ (y : A). over y (cut_of n P)) u.read ∙ sym (folds a (cut_of n u.whole) (cut_of n P)) ∙ ap (over a) (sym (cut-append n pos u.many u.whole P u.full));
          have₀ = refl;
          kept = refl;
        }

    -- whole records, where nothing waits
    pub goes : (k : ℕ) (part piece' : List ℕ) → have ≡ 0 → length part ≡ k * n → After n over a (bytes ++ part) (over x (cut_of n part)) 0 piece'
    goes k part piece' h l = record {
      many = u.many + k;
      whole = u.whole ++ part;
      left = [];
      all = ap (◌++ part) (u.all ∙ ap (u.whole ++◌) (nothing u.left (sym u.have₀ ∙ h)) ∙ append-nil u.whole) ∙ sym (append-nil (u.whole ++ part));
      full = length-append u.whole part ∙ sums u.full l;
      short = pos;
      read = ap (λ (y : A). over y (cut_of n part)) u.read ∙ sym (folds a (cut_of n u.whole) (cut_of n part)) ∙ ap (over a) (sym (cut-append n pos u.many u.whole part u.full));
      have₀ = refl;
      kept = refl;
    }
      where
        nothing : (l : List ℕ) → length l ≡ 0 → l ≡ []
        nothing [] e = refl
        nothing (y ∷ l) e = absurd (omega arith)

        sums : {p q : ℕ} → p ≡ u.many * n → q ≡ k * n → p + q ≡ (u.many + k) * n
        sums e f = omega (arith, e, f)

    -- some bytes, and some more from where they led
    pub after_more : (more : List ℕ) (y : A) (have' : ℕ) (piece' : List ℕ) → After n over x (take have piece ++ more) y have' piece' → After n over a (bytes ++ more) y have' piece'
    after_more more y have' piece' v = record {
      many = u.many + v.many;
      whole = u.whole ++ v.whole;
      left = v.left;
      all = ap (◌++ more) u.all ∙ append_assoc u.whole u.left more ∙ ap (λ (l : List ℕ). u.whole ++ (l ++ more)) (sym u.kept)
          ∙ ap (u.whole ++◌) v.all ∙ sym (append_assoc u.whole v.whole v.left);
      full = length-append u.whole v.whole ∙ together u.full v.full;
      short = v.short;
      read = v.read ∙ ap (λ (z : A). over z (cut_of n v.whole)) u.read ∙ sym (folds a (cut_of n u.whole) (cut_of n v.whole))
          ∙ ap (over a) (sym (cut-append n pos u.many u.whole v.whole u.full));
      have₀ = v.have₀;
      kept = v.kept;
    }
      where
        together : {p q : ℕ} → p ≡ u.many * n → q ≡ v.many * n → p + q ≡ (u.many + v.many) * n
        together e f = omega (arith, e, f)

    -- where nothing is read after it, the rest of the stream changes nothing
    pub at_rest : (rest : List ℕ) → ((rs : List (List ℕ)) → over x rs ≡ x) → over a (cut_of n (bytes ++ rest)) ≡ x
    at_rest rest h =
        ap (λ (l : List ℕ). over a (cut_of n l)) (ap (◌++ rest) u.all ∙ append_assoc u.whole u.left rest)
        ∙ ap (over a) (cut-append n pos u.many u.whole (u.left ++ rest) u.full)
        ∙ folds a (cut_of n u.whole) (cut_of n (u.left ++ rest))
        ∙ ap (λ (z : A). over z (cut_of n (u.left ++ rest))) (sym u.read)
        ∙ h (cut_of n (u.left ++ rest))
