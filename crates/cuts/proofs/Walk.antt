-- Record by record: from `at` the next one, and then the rest.
use Prim.Native.Nat.{ℕ, ◌+◌, ◌-◌, ◌≤◌, ◌<◌}
use Rattle.std.proofs.Common.{min}
use Rattle.std.proofs.Math.Nat.{min-eq_left, min-eq_right}
use mathlib.Core.Path.{◌≡◌, refl, sym, ap, subst, ◌∙◌}
use mathlib.Core.Bool.{Bool, true, false}
use mathlib.Core.List.{List, [], ◌∷◌, ◌++◌}
use native.Mathlib.Omega.{arith}
use lib.ListN.{length, take, drop, length-drop}
use lib.Seq.{take_all, drop-drop, drop-length}
use lib.Dec.{ltb}
use borrow.Author.Tests.{ltb-true, ltb-false, lt-ltb, le-ltb}
use Rattle.rules.specs.IfElse.{if_else}
use Rattle.rules.proofs.Lists.{no-elements}
use Rattle.rules.proofs.Chunks.{chunk-parts}
use Rattle.cuts.specs.Cuts.{cut_of, next_of}
use Rattle.cuts.proofs.Cut.{cut-first}

pub next-short : (n at len : ℕ) → len - at < n → len ≡ next_of n at len
unfolding if_else
next-short n at len h = rw (lt-ltb (len - at) n h)

pub next-whole : (n at len : ℕ) → n ≤ len - at → at + n ≡ next_of n at len
unfolding if_else
next-whole n at len h = rw (le-ltb (len - at) n h)

pub record Next (n : ℕ) (l : List ℕ) (at end : ℕ) : Type 0 where
  pub on : at < end
  pub within : end ≤ length l
  pub most : end ≤ at + n
  pub whole : end < length l → end ≡ at + n
  pub cut : cut_of n (drop at l) ≡ take (end - at) (drop at l) ∷ cut_of n (drop end l)

module _ (n : ℕ) (pos : 0 < n) (l : List ℕ) (at : ℕ) (here : at < length l) where
  first : cut_of n (drop at l) ≡ take n (drop at l) ∷ cut_of n (drop n (drop at l))
  first = cut-first n pos (drop at l) (omega (arith, length-drop at l))

  pub next-is : Next n l at (next_of n at (length l))
  unfolding if_else
  next-is = go (ltb (length l - at) n) refl
    where
      short : length l - at < n → Next n l at (length l)
      short h =
          let a : take n (drop at l) ≡ drop at l = take_all n (drop at l) (omega (arith, length-drop at l)) in
          let b : take (length l - at) (drop at l) ≡ drop at l = take_all (length l - at) (drop at l) (omega (arith, length-drop at l)) in
          let c : drop n (drop at l) ≡ [] = no-elements (drop n (drop at l)) (omega (arith, length-drop n (drop at l), length-drop at l)) in
          record {
            on = here;
            within = omega arith;
            most = omega arith;
            whole = λ h. absurd (omega arith);
            cut = first ∙ ap (λ (r : List ℕ). r ∷ cut_of n (drop n (drop at l))) (a ∙ sym b) ∙ ap (λ (r : List ℕ). take (length l - at) (drop at l) ∷ cut_of n r) (c ∙ sym (drop-length l));
          }

      whole : n ≤ length l - at → Next n l at (at + n)
      whole h = record {
        on = omega (arith, pos);
        within = omega arith;
        most = omega arith;
        whole = λ h. refl;
        cut = first ∙ ap (λ (k : ℕ). take k (drop at l) ∷ cut_of n (drop n (drop at l))) size ∙ ap (λ (r : List ℕ). take (at + n - at) (drop at l) ∷ cut_of n r) (drop-drop n at l);
      }
        where
          size : n ≡ at + n - at
          size = omega arith

      go : (c : Bool) → ltb (length l - at) n ≡ c → Next n l at (if_else c (length l) (at + n))
      go true e = short (ltb-true (length l - at) n e)
      go false e = whole (ltb-false (length l - at) n e)

-- CHUNK BY CHUNK: a chunk of what is left is the first record, and the rest are those of what comes after it
pub chunk-first : (n : ℕ) (rest x more : List ℕ) → 0 < n → rest ≡ x ++ more → length x ≡ min n (length rest) → 0 < length rest → cut_of n rest ≡ x ∷ cut_of n more
chunk-first n rest x more pos e size some =
    let parts = chunk-parts n rest x more e size in
    cut-first n pos rest some ∙ ap (λ (l : List ℕ). l ∷ cut_of n (drop n rest)) parts.0 ∙ ap (λ (l : List ℕ). x ∷ cut_of n l) parts.1

-- and it ends where `next` says: what `next-is` says of that end holds of each chunk
pub chunk-next : (n at : ℕ) (l x more : List ℕ) → 0 < n → at < length l → drop at l ≡ x ++ more → length x ≡ min n (length (drop at l)) → at + length x ≡ next_of n at (length l)
unfolding if_else
chunk-next n at l x more pos here e size = go (ltb (length l - at) n) refl
  where
    left : length (drop at l) ≡ length l - at
    left = length-drop at l

    go : (c : Bool) → ltb (length l - at) n ≡ c → at + length x ≡ if_else c (length l) (at + n)
    go true q = let s : min n (length (drop at l)) ≡ length (drop at l) = min-eq_right (omega (arith, left, ltb-true (length l - at) n q)) in omega (arith, size, s, left, here)
    go false q = let s : min n (length (drop at l)) ≡ n = min-eq_left (omega (arith, left, ltb-false (length l - at) n q)) in omega (arith, size, s)

pub chunk-is : (n at : ℕ) (l x more : List ℕ) → 0 < n → at < length l → drop at l ≡ x ++ more → length x ≡ min n (length (drop at l)) → Next n l at (at + length x)
chunk-is n at l x more pos here e size = subst (Next n l at) (sym (chunk-next n at l x more pos here e size)) (next-is n pos l at here)
