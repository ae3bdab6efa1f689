-- What is a loop and what is none. Where every source names an earlier entity that is no output terminal, nothing is broken, however many paths lead from
-- one entity to another; and entities that feed each other are on a loop, whether or not an output terminal leads there.
use Rattle.std.specs.Prelude.{None, Option, Some}
use Rattle.rules.specs.Verdicts.{accept}
use Prim.Native.Nat.{ℕ, zero, suc, ◌<◌}
use mathlib.Core.Path.{◌≡◌, refl, sym}
use mathlib.Core.List.{List}
use mathlib.Core.Bool.{Bool, true, false, not, ◌&&◌, true≢false}
use mathlib.Core.Logic.{⊎_elim}
use lib.ListN.{length}
use lib.Dec.{ltb, eqb}
use borrow.Author.Tests.{ltb-true, eqb-false, not-true}
use native.Mathlib.Omega.{arith}
use native.Mathlib.Nat.{eq-or-lt_of_le}
use Rattle.rules.specs.Chain.{Chain, Chain.one, Chain.more, OnLoop}
use Rattle.rules.proofs.Rows.{and_first, and_second}
use Rattle.entities.specs.Table.{entity_at, find_from}
use Rattle.entities.specs.declared.Entity.{Entity}
use Rattle.sources.specs.Sources.{sources_of, source_at, Feeds, Breaks13, Breaks14, Breaks15, NoEntity, Judged, Judged.fine}

-- a chain of edges that all go down goes down
module _ (E : ℕ → ℕ → Type 0) (down : (i j : ℕ) → E i j → j < i) where
  chain-down : {i j : ℕ} → Chain E i j → j < i
  chain-down (one e) = down _ _ e
  chain-down (more e c) = omega (arith, down _ _ e, chain-down c)

  no_loop : (i : ℕ) → OnLoop E i → ⊥
  no_loop i c = omega (arith, chain-down c)

-- the answer of a lookup is an entity before i that is no output terminal
pub record Earlier (l : List Entity) (i : ℕ) (f : Option ℕ) : Type 0 where
  pub place : ℕ
  pub found : f ≡ Some place
  pub before : place < i
  pub plain : (entity_at l place).kind ≡ 3 → ⊥

abbrev pub Orderly : List ℕ → List Entity → Type 0
Orderly s l = (i : ℕ) → i < length l → (q : ℕ) → q < sources_of s (entity_at l i) → Earlier l i (find_from 0 l (source_at s (entity_at l i) q))

-- TWO PATHS TO ONE SOURCE ARE NO LOOP
pub orderly-fine : (s : List ℕ) (l : List Entity) → Orderly s l → Judged s l accept
orderly-fine s l o =
    fine lost output (λ i h. no_loop (Feeds s l) down i)
  where
    lost : NoEntity l (Breaks13 s l)
    lost i h x = let e = o i h x.0 x.1 in let n = e.found in let p = x.2 in let z : ◌≡◌ {A = ℕ} 0 1 = cc in omega arith

    output : NoEntity l (Breaks14 s l)
    output i h x =
        let e = o i h x.0 x.1 in
        let n = e.found in
        let p = x.2.1 in
        let z : x.2.0 ≡ e.place = cc in
        e.plain (rw z at x.2.2)

    down : (i j : ℕ) → Feeds s l i j → j < i
    down i j x =
        let e = o i x.0 x.1.0 x.1.1 in
        let n = e.found in
        let p = x.1.2 in
        let z : j ≡ e.place = cc in
        omega (arith, e.before)

-- TWO ENTITIES THAT FEED EACH OTHER ARE ON A LOOP, and so is one that feeds itself: no output terminal is asked for
pub feed-each-other : (s : List ℕ) (l : List Entity) (i j : ℕ) → Feeds s l i j → Feeds s l j i → Breaks15 s l i
feed-each-other s l i j a b = more a (one b)

pub feeds-itself : (s : List ℕ) (l : List Entity) (i : ℕ) → Feeds s l i i → Breaks15 s l i
feeds-itself s l i a = one a

-- ---- by a test that computes
unfoldable pub all_below : ℕ → (ℕ → Bool) → Bool
all_below zero f = true
all_below (suc n) f = f n && all_below n f

pub all-below : (n : ℕ) (f : ℕ → Bool) → all_below n f ≡ true → (i : ℕ) → i < n → f i ≡ true
unfolding all_below
all-below zero f h i l = absurd (omega arith)
all-below (suc n) f h i l =
    ⊎_elim (λ e. rw e (and_first (f n) (all_below n f) h)) (λ k. all-below n f (and_second (f n) (all_below n f) h) i k) (eq-or-lt_of_le {n = i} {m = n} (omega arith))

unfoldable pub earlier : List Entity → ℕ → Option ℕ → Bool
earlier l i None = false
earlier l i (Some j) = ltb j i && not (eqb (entity_at l j).kind 3)

earlier-is : (l : List Entity) (i : ℕ) (f : Option ℕ) → earlier l i f ≡ true → Earlier l i f
unfolding earlier
earlier-is l i None h = absurd (true≢false (sym h))
earlier-is l i (Some j) h = record {
  place = j;
  found = refl;
  before = ltb-true j i (and_first (ltb j i) (not (eqb (entity_at l j).kind 3)) h);
  plain = eqb-false (entity_at l j).kind 3 (not-true (eqb (entity_at l j).kind 3) (and_second (ltb j i) (not (eqb (entity_at l j).kind 3)) h));
}

unfoldable pub orderly : List ℕ → List Entity → Bool
orderly s l = all_below (length l) (λ i. all_below (sources_of s (entity_at l i)) (λ q. earlier l i (find_from 0 l (source_at s (entity_at l i) q))))

pub orderly-is : (s : List ℕ) (l : List Entity) → orderly s l ≡ true → Orderly s l
unfolding orderly
orderly-is s l h i hi q hq =
    earlier-is l i (find_from 0 l (source_at s (entity_at l i) q))
    (all-below (sources_of s (entity_at l i)) (λ a. earlier l i (find_from 0 l (source_at s (entity_at l i) a)))
    (all-below (length l) (λ k. all_below (sources_of s (entity_at l k)) (λ a. earlier l k (find_from 0 l (source_at s (entity_at l k) a)))) h i hi) q hq)

-- every source names an entity that is no output terminal
unfoldable pub plain : List Entity → Option ℕ → Bool
plain l None = false
plain l (Some j) = not (eqb (entity_at l j).kind 3)

unfoldable pub all_plain : List ℕ → List Entity → Bool
all_plain s l = all_below (length l) (λ i. all_below (sources_of s (entity_at l i)) (λ q. plain l (find_from 0 l (source_at s (entity_at l i) q))))

module _ (s : List ℕ) (l : List Entity) (h : all_plain s l ≡ true) where
  plain_at : (i : ℕ) → i < length l → (q : ℕ) → q < sources_of s (entity_at l i) → plain l (find_from 0 l (source_at s (entity_at l i) q)) ≡ true
  unfolding all_plain
  plain_at i hi q hq =
      all-below (sources_of s (entity_at l i)) (λ a. plain l (find_from 0 l (source_at s (entity_at l i) a)))
      (all-below (length l) (λ k. all_below (sources_of s (entity_at l k)) (λ a. plain l (find_from 0 l (source_at s (entity_at l k) a)))) h i hi) q hq

  pub plain-found : NoEntity l (Breaks13 s l)
  unfolding plain
  plain-found i hi x = true≢false (sym (rw x.2 at (plain_at i hi x.0 x.1)))

  pub plain-kept : NoEntity l (Breaks14 s l)
  unfolding plain
  plain-kept i hi x = let p = plain_at i hi x.0 x.1 in eqb-false (entity_at l x.2.0).kind 3 (not-true (eqb (entity_at l x.2.0).kind 3) (rw x.2.1 at p)) x.2.2
