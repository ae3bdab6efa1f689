-- One read, by what comes of it: it waits, or it fills the piece, or nothing waited.
use Rattle.std.proofs.Common.{◌≡◌, ℕ, ◌+◌, ◌-◌, ◌<◌, ◌≤◌, Bool, true, false, ltb, List, [], ◌∷◌, ◌++◌, length, take, drop, sym, refl, ap, ◌∙◌, subst, append_assoc, append-nil, arith, length-take-le, ltb-false, ltb-true}
use lib.Seq.{paste}
use Rattle.rules.specs.IfElse.{if_else}
use Rattle.text.specs.Put.{Put}
use Rattle.text.proofs.Puts.{then}
use Rattle.cuts.specs.Cuts.{cut_of, After, Folds, least_of}
use Rattle.cuts.proofs.Goes.{after_none}
use Rattle.cuts.proofs.Feed.{feed-waits, feed-fills, feed-size, feed-rest}
use Rattle.convert.specs.declared.Converter.{Converter}
use Rattle.convert.specs.declared.Reader.{Reader}
use Rattle.convert.specs.Inner.{one_of, text_of, all_of, texts_of, So, over, so_far, end_of, part_of, left_of, Gone, Fed, Ended}
use Rattle.convert.proofs.Branches.{put-none}

-- ---- over some records, and then over some more
pub all_append : (c : Converter) (xs ys : List (List ℕ)) → all_of c (xs ++ ys) ≡ all_of (all_of c xs) ys
all_append c [] ys = refl
all_append c (x ∷ xs) ys = all_append (one_of c x) xs ys

pub texts-append : (c : Converter) (xs ys : List (List ℕ)) → texts_of c (xs ++ ys) ≡ texts_of c xs ++ texts_of (all_of c xs) ys
texts-append c [] ys = refl
texts-append c (x ∷ xs) ys =
    ap (text_of c x ++◌) (texts-append (one_of c x) xs ys) ∙ sym (append_assoc (text_of c x) (texts_of (one_of c x) xs) (texts_of (all_of (one_of c x) xs) ys))

pub so : {a b : Converter} {s t : List ℕ} → a ≡ b → s ≡ t → ◌≡◌ {A = So} (record { converter = a; written = s }) (record { converter = b; written = t })
so e f = λ i. record { converter = e i; written = f i }

pub folds : Folds over
folds a xs ys =
    so (all_append a.converter xs ys)
    (ap (a.written ++◌) (texts-append a.converter xs ys) ∙ sym (append_assoc a.written (texts_of a.converter xs) (texts_of (all_of a.converter xs) ys)))

pub over_none : (a : So) → over a [] ≡ a
over_none a = so refl (append-nil a.written)

abbrev pos : 0 < 64
pos = omega arith

-- the lesser of two is not over the first
pub least_first : (a b : ℕ) → least_of a b ≤ a
unfolding if_else
least_first a b = go (ltb a b) refl
  where
    go : (x : Bool) → ltb a b ≡ x → if_else x a b ≤ a
    go true e = omega arith
    go false e = let h = ltb-false a b e in omega arith

-- what waits in the piece
pub waiting : (c : Converter) (have : ℕ) (piece : List ℕ) → have < 64 → length piece ≡ 64 → After 64 over (so_far c) (take have piece) (so_far c) have piece
unfolding cut_of
waiting c have piece h e = record {
  many = 0;
  whole = [];
  left = take have piece;
  all = refl;
  full = omega arith;
  short = omega (arith, length-take-le have piece (omega arith));
  read = refl;
  have₀ = sym (length-take-le have piece (omega arith));
  kept = refl;
}

-- an equal piece, count and state
moved : (a : So) (bytes : List ℕ) (x y : So) (j k : ℕ) (p q : List ℕ) → x ≡ y → j ≡ k → p ≡ q → After 64 over a bytes x j p → After 64 over a bytes y k q
moved a bytes x y j k p q e f g u = rw (← e, ← f, ← g) u

module _ (r : Reader) (piece input old : List ℕ) (small : r.have < 64) (size : length piece ≡ 64) where
  pub fed-fresh : r.have ≡ 0 → (r' : Reader) (wrote : ℕ) (piece' new : List ℕ) → Gone r.converter 0 piece input 0 old r' wrote piece' new → Fed r piece input old r' wrote piece' new
  fed-fresh h r' wrote piece' new g =
      let a : So = so_far r.converter in
      let x : So = record { converter = r'.converter; written = texts_of r.converter (cut_of 64 (part_of 0 input)) } in
      let u = feed-rest 64 pos over folds over_none a [] input a piece 0 (omega arith) (after_none 64 pos over folds over_none a piece) size in
      record {
        written = texts_of r.converter (cut_of 64 (part_of 0 input));
        after =
            subst (λ (k : ℕ). After 64 over a (take k piece ++ input) x r'.have piece') (sym h)
            (moved a input _ _ _ _ _ _ (so (sym g.converter) refl) (sym g.have) (sym (g.kept ∙ ap (λ (k : ℕ). paste piece 0 (take k (left_of 0 input)) k) g.have)) u);
        put = g.put;
      }

  module _ (k : ℕ) (P : List ℕ) (least : k ≡ least_of (length input) (length piece - r.have)) (is : P ≡ paste piece r.have (take k input) k) where
    base : After 64 over (so_far r.converter) (take r.have piece) (so_far r.converter) r.have piece
    base = waiting r.converter r.have piece small size

    abbrev l : ℕ
    l = least_of (length input) (length piece - r.have)

    abbrev Q : List ℕ
    Q = paste piece r.have (take l input) l

    same : P ≡ Q
    same = is ∙ ap (λ (m : ℕ). paste piece r.have (take m input) m) least

    within : k ≤ length input
    within = rw least (least_first (length input) (length piece - r.have))

    whole : length P ≡ 64
    whole = ap length same ∙ feed-size 64 pos over folds over_none (so_far r.converter) (take r.have piece) (so_far r.converter) r.have piece base size input small

    pub fed-waits : r.have + k < 64 → Fed r piece input old (record { converter = r.converter; have = r.have + k }) 0 P old
    fed-waits h = record {
      written = [];
      after =
          moved (so_far r.converter) (take r.have piece ++ input) _ _ _ _ _ _ refl (ap (r.have +◌) (sym least)) (sym same)
          (feed-waits 64 pos over folds over_none (so_far r.converter) (take r.have piece) (so_far r.converter) r.have piece base size input (rw least at (h)));
      put = put-none old 0 (omega arith);
    }

    -- the record in the piece is converted, and then the others
    pub fed-fills : 64 ≤ r.have + k → (d : Converter) (at : ℕ) (mid : List ℕ) → (d ≡ all_of r.converter (cut_of 64 P)) × Put old 0 (texts_of r.converter (cut_of 64 P)) at mid
        → (r' : Reader) (wrote : ℕ) (piece' new : List ℕ) → Gone d at P input k mid r' wrote piece' new → Fed r piece input old r' wrote piece' new
    fed-fills h d at mid (e, p) r' wrote piece' new g =
        let c : Converter = r.converter in
        let a : So = so_far c in
        let v : After 64 over a (take r.have piece ++ take k input) (over a (cut_of 64 P)) 0 P =
        rw (same, least) (feed-fills 64 pos over folds over_none a (take r.have piece) a r.have piece base size input (rw least at (h)) small) in
        let u = feed-rest 64 pos over folds over_none a (take r.have piece) input (over a (cut_of 64 P)) P k within v whole in
        record {
          written = texts_of c (cut_of 64 P) ++ texts_of d (cut_of 64 (part_of k input));
          after =
              moved a (take r.have piece ++ input) _ _ _ _ _ _
              (so (ap (λ (x : Converter). all_of x (cut_of 64 (part_of k input))) (sym e) ∙ sym g.converter)
              (ap (λ (x : Converter). texts_of c (cut_of 64 P) ++ texts_of x (cut_of 64 (part_of k input))) (sym e)))
              (sym g.have) (sym (g.kept ∙ ap (λ (m : ℕ). paste P 0 (take m (left_of k input)) m) g.have)) u;
          put = then p g.put;
        }

-- ---- as the code has it
pub fill-within : (k a b : ℕ) → k ≡ least_of a b → k ≤ a
fill-within k a b e = rw e (least_first a b)

pub fill-small : (k a b : ℕ) → k ≡ least_of a b → k ≤ b
unfolding if_else
fill-small k a b e = rw e (go (ltb a b) refl)
  where
    go : (x : Bool) → ltb a b ≡ x → if_else x a b ≤ b
    go true e = let h = ltb-true a b e in omega arith
    go false e = omega arith

pub rest-gone : (c d : Converter) (at : ℕ) (piece input : List ℕ) (from : ℕ) (old piece' new : List ℕ) (to have wrote : ℕ) → to ≡ end_of from input
    → (d ≡ all_of c (cut_of 64 (take (to - from) (drop from input)))) × Put old at (texts_of c (cut_of 64 (take (to - from) (drop from input)))) wrote new
    → (have ≡ least_of (length (take (length input - to) (drop to input))) (length piece - 0)) × (piece' ≡ paste piece 0 (take have (take (length input - to) (drop to input))) have)
    → Gone c at piece input from old (record { converter = d; have = have }) wrote piece' new
rest-gone c d at piece input from old piece' new to have wrote e (a, p) (h, k) = record {
  converter = rw (← e) a;
  put = rw (← e) p;
  have = rw (← e) h;
  kept = rw (← e) k;
}

pub last-ended : (r : Reader) (d : Converter) (piece old new : List ℕ) (wrote : ℕ)
    → (d ≡ all_of r.converter (cut_of 64 (take (r.have - 0) piece))) × Put old 0 (texts_of r.converter (cut_of 64 (take (r.have - 0) piece))) wrote new
    → Ended r piece old (record { converter = d; have = 0 }) wrote new
last-ended r d piece old new wrote (a, p) = record { converter = rw same at (a); none = refl; put = rw same at (p) }
  where
    same : r.have - 0 ≡ r.have
    same = omega arith
