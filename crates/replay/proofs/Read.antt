-- A read: its whole records from some place on, what is left over, and the record that it makes whole in the piece.
use Prim.Native.Nat.{ℕ, ◌+◌, ◌-◌, ◌%◌, ◌≤◌, ◌<◌}
use mathlib.Core.Path.{◌≡◌, refl, sym, ap, subst, ◌∙◌}
use mathlib.Core.List.{List, [], ◌++◌}
use native.Mathlib.Omega.{arith}
use native.Mathlib.Nat.{mod-le}
use lib.ListN.{length, take, drop, length-drop}
use lib.Seq.{paste, length-take-le, length-paste}
use Rattle.text.specs.Put.{Put}
use Rattle.text.proofs.Puts.{then}
use Rattle.cuts.specs.Cuts.{cut_of, After, least_of}
use Rattle.cuts.proofs.Goes.{after_none}
use Rattle.cuts.proofs.Feed.{least-bounds, feed-waits, feed-fills, feed-rest}
use Rattle.records.specs.declared.Form.{Form}
use Rattle.records.specs.Form.{size_of}
use Rattle.frame_lines.specs.declared.Show.{Show}
use Rattle.replay.specs.declared.Replay.{Replay}
use Rattle.replay.specs.declared.Lined.{Lined}
use Rattle.replay.specs.declared.Progress.{Progress}
use Rattle.replay.specs.Inner.{Out, over, out_of, Ran, stop_of, part_of, left_of, Rested, Fed}
use Rattle.replay.proofs.Over.{folds, over-text}
use Rattle.replay.proofs.Records.{positive, put-nothing}

pub none : (f : Form) (w : Show) (x : Out) → over f w x [] ≡ x
none f w x = refl

-- ---- from some place on
pub stop_is : (f : Form) (size from n end : ℕ) → size ≡ size_of f → end ≡ n - (n - from) % size → end ≡ stop_of f from n
stop_is f size from n end e q = q ∙ ap (λ (k : ℕ). n - (n - from) % k) e

pub stop-bounds : (f : Form) (from n end : ℕ) → from ≤ n → end ≡ stop_of f from n → (from ≤ end) × (end ≤ n)
stop-bounds f from n end h e = (omega (arith, e, mod-le (n - from) (size_of f)), omega (arith, e))

pub part-short : (from end : ℕ) (input : List ℕ) → from ≤ end → end ≤ length input → length (take (end - from) (drop from input)) ≤ length input
part-short from end input h g = let e = length-take-le (end - from) (drop from input) (omega (arith, length-drop from input)) in omega (arith, e)

pub rested : (f : Form) (w : Show) (p : Replay) (from : ℕ) (piece input old : List ℕ) (at : ℕ) (l : Lined) (have : ℕ) (piece' new : List ℕ) (end : ℕ) → end ≡ stop_of f from (length input)
    → Ran f w p (take (end - from) (drop from input)) old at l new → have ≡ least_of (length (take (length input - end) (drop end input))) (length piece - 0)
    → piece' ≡ paste piece 0 (take have (take (length input - end) (drop end input))) have
    → Rested f w p from piece input old at (record { reader = record { replay = l.replay; have = have }; wrote = l.at }) piece' new
rested f w p from piece input old at l have piece' new end e r h q = record {
  text = r.text;
  leads = r.leads ∙ ap (λ (k : ℕ). over f w (out_of p []) (cut_of (size_of f) (take (k - from) (drop from input)))) e;
  put = r.put;
  have = h ∙ ap (λ (k : ℕ). least_of (length (take (length input - k) (drop k input))) (length piece - 0)) e;
  kept = q ∙ ap (λ (k : ℕ). paste piece 0 (take have (take (length input - k) (drop k input))) have) e;
}

-- the first bytes of a piece, as a part of it
pub first-ran : (f : Form) (w : Show) (p : Replay) (piece old : List ℕ) (have : ℕ) (l : Lined) (new : List ℕ) → Ran f w p (take (have - 0) (drop 0 piece)) old 0 l new → Ran f w p (take have piece) old 0 l new
first-ran f w p piece old have l new r = subst (λ (k : ℕ). Ran f w p (take k piece) old 0 l new) same r
  where
    same : have - 0 ≡ have
    same = omega arith

-- ---- a whole read
module _ (f : Form) (w : Show) (p : Replay) (have : ℕ) (piece : List ℕ) (short : have < size_of f) (size : length piece ≡ size_of f) where
  abbrev n : ℕ
  n = size_of f

  -- what waits in the piece is all that there is
  waiting : After n (over f w) (out_of p []) (take have piece) (out_of p []) have piece
  unfolding cut_of
  waiting = record {
    many = 0;
    whole = [];
    left = take have piece;
    all = refl;
    full = omega arith;
    short = omega (arith, length-take-le have piece (omega (arith, size)));
    read = refl;
    have₀ = sym (length-take-le have piece (omega (arith, size)));
    kept = refl;
  }

  module _ (input old : List ℕ) where
    abbrev k : ℕ
    k = least_of (length input) (length piece - have)

    abbrev P : List ℕ
    P = paste piece have (take k input) k

    pub filled_within : k ≤ length input
    filled_within = (least-bounds (length input) (length piece - have)).0

    pub filled-size : length P ≡ size_of f
    filled-size =
        let b = least-bounds (length input) (length piece - have) in
        length-paste piece have (take k input) k (omega (arith, b.1, size)) (omega (arith, length-take-le k input b.0)) ∙ size

    pub fed-waits : have + k < size_of f → Fed f w p (take have piece ++ input) (record { reader = record { replay = p; have = have + k }; wrote = 0 }) P old old
    fed-waits h = record {
      text = [];
      after = feed-waits n (positive f) (over f w) (folds f w) (none f w) (out_of p []) (take have piece) (out_of p []) have piece waiting size input h;
      put = put-nothing old 0 (omega arith);
    }

    -- from a place on, where nothing waits
    goes_on : (bytes : List ℕ) (q : Replay) (t : List ℕ) (Q : List ℕ) (from at : ℕ) (x : Progress) (piece' mid new : List ℕ) → from ≤ length input → length Q ≡ size_of f
        → After n (over f w) (out_of p []) (bytes ++ take from input) (out_of q t) 0 Q → Put old 0 t at mid → Rested f w q from Q input mid at x piece' new
        → Fed f w p (bytes ++ input) x piece' old new
    goes_on bytes q t Q from at x piece' mid new h s u o r =
        let v = feed-rest n (positive f) (over f w) (folds f w) (none f w) (out_of p []) bytes input (out_of q t) Q from h u s in
        let rs : List (List ℕ) = cut_of n (part_of f from input) in
        let e : over f w (out_of q t) rs ≡ out_of x.reader.replay (t ++ r.text) =
        over-text f w rs q t ∙ (λ i. out_of (sym r.leads i).replay (t ++ (sym r.leads i).text)) in
        record {
          text = t ++ r.text;
          after =
              subst (λ (y : Out). After n (over f w) (out_of p []) (bytes ++ input) y x.reader.have piece') e
              (subst (λ (l : List ℕ). After n (over f w) (out_of p []) (bytes ++ input) (over f w (out_of q t) rs) x.reader.have l) (sym r.kept)
              (subst (λ (j : ℕ). After n (over f w) (out_of p []) (bytes ++ input) (over f w (out_of q t) rs) j (paste Q 0 (take j (left_of f from input)) j)) (sym r.have) v));
          put = then o r.put;
        }

    pub fed-straight : (x : Progress) (piece' new : List ℕ) → have ≡ 0 → Rested f w p 0 piece input old 0 x piece' new → Fed f w p (take have piece ++ input) x piece' old new
    fed-straight x piece' new e r =
        goes_on (take have piece) p [] piece 0 0 x piece' old new (omega arith) size
        (subst (λ (j : ℕ). After n (over f w) (out_of p []) (take j piece ++ []) (out_of p []) 0 piece) (sym e) (after_none n (positive f) (over f w) (folds f w) (none f w) (out_of p []) piece))
        (put-nothing old 0 (omega arith)) r

    pub fed-filled : (l : Lined) (x : Progress) (piece' mid new : List ℕ) → size_of f ≤ have + k → Ran f w p P old 0 l mid → Rested f w l.replay k P input mid l.at x piece' new
        → Fed f w p (take have piece ++ input) x piece' old new
    fed-filled l x piece' mid new h a r =
        goes_on (take have piece) l.replay a.text P k l.at x piece' mid new filled_within filled-size
        (subst (λ (y : Out). After n (over f w) (out_of p []) (take have piece ++ take k input) y 0 P) (sym a.leads)
        (feed-fills n (positive f) (over f w) (folds f w) (none f w) (out_of p []) (take have piece) (out_of p []) have piece waiting size input h short))
        a.put r

    -- as the code has them: how much was filled in, the piece after it, and the size
    module _ (k' : ℕ) (P' : List ℕ) (many : k' ≡ k) (is : P' ≡ paste piece have (take k' input) k') where
      same-piece : P ≡ P'
      same-piece = sym (is ∙ ap (λ (j : ℕ). paste piece have (take j input) j) many)

      pub piece-within : k' ≤ length input
      piece-within = omega (arith, many, filled_within)

      pub piece-size : length P' ≡ size_of f
      piece-size = ap length (sym same-piece) ∙ filled-size

      pub fed-at : (size' : ℕ) → size' ≡ size_of f → have + k' < size' → Fed f w p (take have piece ++ input) (record { reader = record { replay = p; have = have + k' }; wrote = 0 }) P' old old
      fed-at size' e h =
          subst (λ (l : List ℕ). Fed f w p (take have piece ++ input) (record { reader = record { replay = p; have = have + k' }; wrote = 0 }) l old old) same-piece
          (subst (λ (j : ℕ). Fed f w p (take have piece ++ input) (record { reader = record { replay = p; have = have + j }; wrote = 0 }) P old old) (sym many) (fed-waits (omega (arith, many, e, h))))

      pub fed-through : (size' : ℕ) (l : Lined) (x : Progress) (piece' mid new : List ℕ) → size' ≡ size_of f → size' ≤ have + k' → Ran f w p P' old 0 l mid → Rested f w l.replay k' P' input mid l.at x piece' new
          → Fed f w p (take have piece ++ input) x piece' old new
      fed-through size' l x piece' mid new e h a r =
          fed-filled l x piece' mid new (omega (arith, many, e, h)) (subst (λ (q : List ℕ). Ran f w p q old 0 l mid) (sym same-piece) a)
          (subst (λ (q : List ℕ). Rested f w l.replay k q input mid l.at x piece' new) (sym same-piece) (subst (λ (j : ℕ). Rested f w l.replay j P' input mid l.at x piece' new) many r))
