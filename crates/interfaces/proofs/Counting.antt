-- Counting interfaces and settings (75): what the loop has at each turn.
use Prim.Native.Nat.{ℕ, suc, ◌+◌, ◌≤◌, ◌<◌}
use mathlib.Core.Path.{◌≡◌, refl, sym, ap, ◌∙◌}
use mathlib.Core.List.{List, [], ◌∷◌, ◌++◌}
use mathlib.Core.Bool.{Bool, true, false}
use lib.ListN.{length, take, drop, get_or, set, length-drop, length-set, length-replicate, get_or-replicate, get_or-eq_default}
use lib.Seq.{take-suc, drop-cons, get_or-drop, get_or-set_same, get_or-set_other}
use lib.Dec.{leb, eqb}
use borrow.Author.Tests.{leb-false, eqb-true, eqb-false}
use native.Mathlib.Omega.{arith}
use native.Mathlib.Numerals.{add-one}
use Rattle.rules.specs.IfElse.{if_else}
use Rattle.rules.proofs.Rows.{or-first, or-second}
use Rattle.rules.proofs.Places as places
use Rattle.configuration_rules.specs.Descriptors.{number_at, after_at, is_sought}
use Rattle.configuration_rules.specs.declared.Sought.TheVariants.{Listed, Setting}
use Rattle.configuration_rules.proofs.Deciding.{setting}
use Rattle.interfaces.specs.Inner.{line, one_too_many, too_many_at, too_many, no_counts}
use Rattle.interfaces.specs.Line.{those}
use Rattle.interfaces.specs.Limits.{interfaces_most, settings_most, listed_among, settings_among}
use Rattle.interfaces.proofs.Lines.{line-end, line-more, after_on}

-- ---- one more of a list
pub those-more : (f : ℕ → Bool) (l : List ℕ) (o : ℕ) → length (those f (l ++ (o ∷ []))) ≡ length (those f l) + if_else (f o) 1 0
unfolding those if_else
those-more f [] o = go (f o)
  where
    go : (b : Bool) → length (if_else b (o ∷ []) []) ≡ 0 + if_else b 1 0
    go true = refl
    go false = refl
those-more f (x ∷ l) o = go (f x) (those-more f l o)
  where
    go : (b : Bool) → length (those f (l ++ (o ∷ []))) ≡ length (those f l) + if_else (f o) 1 0
        → length (if_else b (x ∷ those f (l ++ (o ∷ []))) (those f (l ++ (o ∷ [])))) ≡ length (if_else b (x ∷ those f l) (those f l)) + if_else (f o) 1 0
    go true e = omega (arith, e)
    go false e = e

-- a number that stays within its limit where the next is not one too many
kept-within : (t : Bool) (m n : ℕ) → n ≤ m → if_else t (leb m n) false ≡ false → n + if_else t 1 0 ≤ m
unfolding if_else
kept-within true m n h e = let l = leb-false m n e in omega arith
kept-within false m n h e = omega arith

pub record Counting (s counts : List ℕ) (listed at : ℕ) : Type 0 where
  pub place : ℕ
  pub there : line s at ≡ drop place (line s 0)
  pub seeking : places.Seeking (too_many_at s (line s 0)) (length (line s 0)) place
  pub ones : listed ≡ listed_among s (take place (line s 0))
  pub each : (n : ℕ) → n < 256 → get_or counts n 0 ≡ settings_among s n (take place (line s 0))
  pub size : length counts ≡ 256
  pub few : listed ≤ interfaces_most
  pub fewer : (n : ℕ) → n < 256 → get_or counts n 0 ≤ settings_most
  pub within : at ≤ length s

pub counting-starts : (s counts : List ℕ) → counts ≡ no_counts → Counting s counts 0 0
unfolding those
counting-starts s counts e =
    rw e
    (record {
      place = 0;
      there = refl;
      seeking = places.seek (too_many_at s (line s 0)) (length (line s 0));
      ones = refl;
      each = λ n h. get_or-replicate {A = ℕ} 256 n 0 0 h;
      size = length-replicate {A = ℕ} 256 0;
      few = omega arith;
      fewer = λ n h. omega (arith, get_or-replicate {A = ℕ} 256 n 0 0 h);
      within = omega arith;
    })

module _ (s counts : List ℕ) (listed at : ℕ) (k : Counting s counts listed at) where
  pub counting-done : length s ≤ at → length s ≡ too_many s
  unfolding too_many
  counting-done h =
      let e : length (drop k.place (line s 0)) ≡ 0 = ap length (sym k.there ∙ line-end s at h) in
      let z : length (line s 0) ≤ k.place = omega (arith, simp length-drop at e) in
      let f = places.none_here (too_many_at s (line s 0)) (length (line s 0)) k.place k.seeking z in
      sym (rw (← f) (get_or-eq_default (line s 0) (length s) (omega arith)))

  module _ (h : at < length s) where
    here : drop k.place (line s 0) ≡ at ∷ line s (after_at s at)
    here = sym k.there ∙ line-more s at h

    inside : k.place < length (line s 0)
    inside =
        let e : length (drop k.place (line s 0)) ≡ suc (length (line s (after_at s at))) = ap length here in
        omega (arith, simp length-drop at e)

    stands : (d : ℕ) → get_or (line s 0) k.place d ≡ at
    stands d =
        let z : k.place + 0 ≡ k.place = omega arith in
        (rw z at (sym (get_or-drop k.place (line s 0) 0 d))) ∙ (rw here)

    onward : line s (after_at s at) ≡ drop (suc k.place) (line s 0)
    onward = let e : at ∷ line s (after_at s at) ≡ get_or (line s 0) k.place 0 ∷ drop (suc k.place) (line s 0) = sym here ∙ drop-cons (line s 0) k.place 0 inside in cc

    taken : take (suc k.place) (line s 0) ≡ take k.place (line s 0) ++ (at ∷ [])
    taken = take-suc (line s 0) k.place 0 inside ∙ (rw (stands 0))

    module _ (n : ℕ) (b : n < 256) (e : n ≡ number_at s at) (seen : ℕ) (q : seen ≡ get_or counts n 0) where
      same_test : one_too_many s at listed seen ≡ too_many_at s (line s 0) k.place
      unfolding too_many_at
      same_test = rw (stands 0, ← e, q, k.each n b, k.ones)

      pub counting-seen : seen ≤ 32
      counting-seen = rw q (k.fewer n b)

      module _ (t : Bool) (f : t ≡ one_too_many s at listed seen) where
        pub counting-full : t ≡ true → at ≡ too_many s
        unfolding too_many
        counting-full y =
            let g = places.found_here (too_many_at s (line s 0)) (length (line s 0)) k.place k.seeking inside (sym same_test ∙ sym f ∙ y) in
            rw (← g) (sym (stands (length s)))

        module _ (y : t ≡ false) where
          not_full : one_too_many s at listed seen ≡ false
          not_full = sym f ∙ y

          pub listed-few : listed + if_else (is_sought Listed s at) 1 0 ≤ 8
          unfolding one_too_many
          listed-few = kept-within (is_sought Listed s at) 8 listed k.few (or-first (if_else (is_sought Listed s at) (leb interfaces_most listed) false) (if_else (is_sought (Setting (number_at s at)) s at) (leb settings_most seen) false) not_full)

          pub seen_few : seen + if_else (is_sought (Setting n) s at) 1 0 ≤ 32
          unfolding one_too_many
          seen_few =
              rw e
              (kept-within (is_sought (Setting (number_at s at)) s at) 32 seen counting-seen (or-second (if_else (is_sought Listed s at) (leb interfaces_most listed) false) (if_else (is_sought (Setting (number_at s at)) s at) (leb settings_most seen) false) not_full))

          -- a descriptor of another number is none of m's settings
          other : (m : ℕ) → (m ≡ n → ⊥) → ◌≡◌ {A = ℕ} (if_else (is_sought (Setting m) s at) 1 0) 0
          unfolding if_else
          other m x = go (is_sought (Setting m) s at) refl
            where
              go : (b : Bool) → is_sought (Setting m) s at ≡ b → ◌≡◌ {A = ℕ} (if_else b 1 0) 0
              go true z = absurd (x (sym ((setting s at m).0 z).number ∙ sym e))
              go false z = refl

          each_more : (m : ℕ) → m < 256 → get_or (set counts n (seen + if_else (is_sought (Setting n) s at) 1 0)) m 0 ≡ settings_among s m (take (suc k.place) (line s 0))
          each_more m z = go (eqb m n) refl
            where
              grown : settings_among s m (take (suc k.place) (line s 0)) ≡ settings_among s m (take k.place (line s 0)) + if_else (is_sought (Setting m) s at) 1 0
              grown = rw taken (those-more (is_sought (Setting m) s) (take k.place (line s 0)) at)

              go : (b : Bool) → eqb m n ≡ b → get_or (set counts n (seen + if_else (is_sought (Setting n) s at) 1 0)) m 0 ≡ settings_among s m (take (suc k.place) (line s 0))
              go true w =
                  let i : m ≡ n = eqb-true m n w in
                  let l : n < length counts = rw k.size b in
                  rw (grown, i, get_or-set_same counts n (seen + if_else (is_sought (Setting n) s at) 1 0) 0 l, q, k.each n b)
              go false w =
                  let i : m ≡ n → ⊥ = eqb-false m n w in
                  rw (grown, get_or-set_other counts n m (seen + if_else (is_sought (Setting n) s at) 1 0) 0 i, other m i, k.each m z) (omega arith)

          fewer-more : (m : ℕ) → m < 256 → get_or (set counts n (seen + if_else (is_sought (Setting n) s at) 1 0)) m 0 ≤ settings_most
          fewer-more m z = go (eqb m n) refl
            where
              go : (b : Bool) → eqb m n ≡ b → get_or (set counts n (seen + if_else (is_sought (Setting n) s at) 1 0)) m 0 ≤ settings_most
              go true w =
                  let i : m ≡ n = eqb-true m n w in
                  let l : n < length counts = rw k.size b in
                  rw (i, get_or-set_same counts n (seen + if_else (is_sought (Setting n) s at) 1 0) 0 l) seen_few
              go false w = rw (get_or-set_other counts n m (seen + if_else (is_sought (Setting n) s at) 1 0) 0 (eqb-false m n w)) (k.fewer m z)

          pub counting_more : (j : ℕ) → j ≡ after_at s at → Counting s (set counts n (seen + if_else (is_sought (Setting n) s at) 1 0)) (listed + if_else (is_sought Listed s at) 1 0) j
          counting_more j x =
              rw x
              (record {
                place = suc k.place;
                there = onward;
                seeking = rw add-one at (places.not-here (too_many_at s (line s 0)) (length (line s 0)) k.place k.seeking inside (sym same_test ∙ not_full));
                ones = rw (taken, those-more (is_sought Listed s) (take k.place (line s 0)) at, ← k.ones);
                each = each_more;
                size = length-set counts n (seen + if_else (is_sought (Setting n) s at) 1 0) ∙ k.size;
                few = listed-few;
                fewer = fewer-more;
                within = (after_on s at h).1;
              })

          -- as the code has it: what is added came by callees
          module _ (x : ℕ) (a : Bool) (p : x ≡ if_else a 1 0) (r : a ≡ is_sought Listed s at) where
            pub adds-listed : listed + x ≤ 8
            adds-listed = rw (p, r) listed-few

          module _ (u m : ℕ) (c : Bool) (g : u ≡ if_else c 1 0) (v : c ≡ is_sought (Setting m) s at) (z : n ≡ m) where
            pub adds-seen : seen + u ≤ 32
            adds-seen = rw (g, v, ← z) seen_few

            pub counting-on : (x : ℕ) (a : Bool) → x ≡ if_else a 1 0 → a ≡ is_sought Listed s at → (j : ℕ) → j ≡ after_at s at → Counting s (set counts n (seen + u)) (listed + x) j
            counting-on x a p r j w = rw (g, v, ← z, p, r) (counting_more j w)
