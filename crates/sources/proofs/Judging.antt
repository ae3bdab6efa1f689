-- The entities are judged one by one: none so far has a source that names nothing, the first that names an output terminal is known, and the rows show what the
-- sources name.
use Rattle.rules.specs.Verdicts.{accept, refuse}
use Prim.Native.Nat.{ℕ, zero, ◌+◌, ◌≤◌, ◌<◌}
use mathlib.Core.Path.{◌≡◌, refl, sym, ap, ◌∙◌, subst}
use mathlib.Core.List.{List}
use mathlib.Core.Bool.{Bool, true, false, not, ◌&&◌, true≢false}
use mathlib.Core.Logic.{⊎_elim, ◌↔◌}
use lib.ListN.{length, get_or, set, replicate, length-take, length-set, length-replicate, get_or-replicate, get_or-eq_default}
use lib.Seq.{get_or-take, get_or-set_same, get_or-set_other}
use lib.Dec.{eqb}
use borrow.Author.Tests.{eqb-true, eqb-false}
use borrow.Author.Count.{below_more}
use native.Mathlib.Omega.{arith}
use Rattle.rules.specs.IfElse.{if_else}
use Rattle.rules.specs.First.{NoneBelow, First}
use Rattle.rules.specs.Chain.{Chain, Chain.one, Chain.more, OnLoop, FirstLoop}
use Rattle.rules.proofs.Firsts.{lt-or-ge}
use Rattle.bits.specs.Bits.{bit_of, Bit}
use Rattle.bits.proofs.Bits.{bit-zero}
use Rattle.graph.specs.Rows.{places, Edge}
use Rattle.entities.specs.Table.{entities_most, entity_at, used}
use Rattle.entities.specs.declared.Table.{Table}
use Rattle.sources.specs.Sources.{Names, Feeds, Breaks13, Breaks14, NoEntity, Judged, Judged.thirteen, Judged.fourteen, Judged.fifteen, Judged.fine}
use Rattle.sources.specs.Links.{LinksOf}

-- ---- the first place of those up to and with i
module _ (P : ℕ → Type 0) (i f : ℕ) (h : First P i f) where
  pub first_more : (b : Bool) → (b ≡ true) ↔ P i → First P (i + 1) (if_else (eqb f i && not b) (i + 1) f)
  unfolding if_else
  first_more b e = go (eqb f i) refl b e
    where
      go : (x : Bool) → eqb f i ≡ x → (b : Bool) → (b ≡ true) ↔ P i → First P (i + 1) (if_else (x && not b) (i + 1) f)
      go false q b e =
          let n = eqb-false f i q in
          let w : f ≤ i = h.within in
          record { within = omega arith; before = h.before; here = λ l. h.here (⊎_elim (λ z. z) (λ z. absurd (n (omega arith))) (lt-or-ge f i)) }
      go true q true e =
          let z : f ≡ i = eqb-true f i q in
          record { within = omega arith; before = h.before; here = λ l. rw z (e.0 refl) }
      go true q false e =
          let z : f ≡ i = eqb-true f i q in
          let no : P i → ⊥ = λ p. true≢false (sym (e.1 p)) in
          record { within = omega arith; before = below_more (λ (k : ℕ). P k → ⊥) i (rw z at h.before) no; here = λ l. absurd (omega arith) }

-- ---- rows filled in order: the rows below i stand for R, the others are 0
pub record Filled (R : ℕ → ℕ → Type 0) (rows : List ℕ) (i : ℕ) : Type 0 where
  pub done : (k : ℕ) → k < i → (j : ℕ) → Bit (get_or rows k 0) j ↔ R k j
  pub rest : (k : ℕ) → i ≤ k → get_or rows k 0 ≡ 0

zeros : (n k : ℕ) → get_or {A = ℕ} (replicate n 0) k 0 ≡ 0
zeros n k = ⊎_elim (λ l. get_or-replicate n k 0 0 l) (λ l. get_or-eq_default (replicate n 0) 0 (omega (arith, length-replicate n zero))) (lt-or-ge k n)

module _ (R : ℕ → ℕ → Type 0) where
  filled_none : (n : ℕ) → Filled R (replicate n 0) 0
  filled_none n = record { done = λ k l. absurd (omega arith); rest = λ k l. zeros n k }

  filled_more : (rows : List ℕ) (i v : ℕ) → i < length rows → Filled R rows i → ((j : ℕ) → Bit v j ↔ R i j) → Filled R (set rows i v) (i + 1)
  filled_more rows i v l f h = record {
    done = below_more (λ (k : ℕ). (j : ℕ) → Bit (get_or (set rows i v) k 0) j ↔ R k j) i
        (λ k kl. rw (get_or-set_other rows i k v 0 (λ q. omega arith)) (f.done k kl))
        (rw (get_or-set_same rows i v 0 l) h);
    rest = λ k kl. get_or-set_other rows i k v 0 (λ q. omega arith) ∙ f.rest k (omega arith);
  }

  filled-all : (rows : List ℕ) (n : ℕ) → Filled R rows n → (k j : ℕ) → Edge rows k j ↔ ((k < n) × R k j)
  filled-all rows n f k j = (
    λ e. ⊎_elim (λ l. (l, (f.done k l j).0 e))
        (λ l. absurd (omega (arith, bit-zero j, sym e ∙ ap (λ (x : ℕ). bit_of x j) (f.rest k l))))
        (lt-or-ge k n),
    λ x. (f.done k x.0 j).1 x.1,
  )

-- ---- chains of one edge relation, and of another that holds of the same pairs
chain-map : {E F : ℕ → ℕ → Type 0} → ((i j : ℕ) → E i j → F i j) → {i j : ℕ} → Chain E i j → Chain F i j
chain-map f (one e) = one (f _ _ e)
chain-map f (more e c) = more (f _ _ e) (chain-map f c)

chain-starts : {E : ℕ → ℕ → Type 0} (n : ℕ) → ((i j : ℕ) → E i j → i < n) → {i j : ℕ} → Chain E i j → i < n
chain-starts n f (one e) = f _ _ e
chain-starts n f (more e c) = f _ _ e

-- a loop among the first n of m places, where only these have edges
module _ (E F : ℕ → ℕ → Type 0) (n m r : ℕ) (same : (i j : ℕ) → E i j ↔ F i j) (from : (i j : ℕ) → F i j → i < n) (within : n ≤ m) (h : FirstLoop E m r) where
  to-f : {i j : ℕ} → Chain E i j → Chain F i j
  to-f c = chain-map {E = E} {F = F} (λ a b e. (same a b).0 e) c

  to-e : {i j : ℕ} → Chain F i j → Chain E i j
  to-e c = chain-map {E = F} {F = E} (λ a b e. (same a b).1 e) c

  loop-here : r < n → First (OnLoop F) n r
  loop-here l = record { within = omega arith; before = λ i il c. h.before i il (to-e c); here = λ z. to-f (h.here (omega arith)) }

  loop-none : n ≤ r → NoneBelow n (OnLoop F)
  loop-none l i il c = h.before i (omega arith) (to-e c)

-- ---- the loop's invariant
pub record Judging (s : List ℕ) (t : Table) (rows : List ℕ) (output i : ℕ) : Type 0 where
  pub within : i ≤ t.count
  pub table : length t.entities ≡ entities_most
  pub size : length rows ≡ places
  pub lost : (k : ℕ) → k < i → Breaks13 s (used t) k → ⊥
  pub first : First (Breaks14 s (used t)) i output
  pub filled : Filled (λ k j. Names s (used t) (entity_at (used t) k) j) rows i

pub judging : (s : List ℕ) (t : Table) → length t.entities ≡ entities_most → Judging s t (replicate places 0) 0 0
judging s t e = record {
  within = omega arith;
  table = e;
  size = refl;
  lost = λ k l. absurd (omega arith);
  first = record { within = omega arith; before = λ k l. absurd (omega arith); here = λ l. absurd (omega arith) };
  filled = filled_none (λ k j. Names s (used t) (entity_at (used t) k) j) places;
}

module _ (s : List ℕ) (t : Table) (rows : List ℕ) (output i : ℕ) (few : t.count ≤ entities_most) (w : Judging s t rows output i) where
  many : length (used t) ≡ t.count
  many = simp length-take (omega (arith, w.table))

  at_place : (k : ℕ) → k < t.count → entity_at (used t) k ≡ entity_at t.entities k
  at_place k h = rw get_or-take

  module _ (h : i < t.count) (lost output' : Bool) (row : ℕ) (k : LinksOf s (used t) (entity_at t.entities i) lost output' row) where
    here : LinksOf s (used t) (entity_at (used t) i) lost output' row
    here = rw (at_place i h) k

    pub judge-more : lost ≡ false → Judging s t (set rows i row) (if_else (eqb output i && not output') (i + 1) output) (i + 1)
    judge-more e = record {
      within = omega arith;
      table = w.table;
      size = length-set rows i row ∙ w.size;
      lost = below_more (λ (a : ℕ). Breaks13 s (used t) a → ⊥) i w.lost (λ x. true≢false (sym (here.nothing.1 x) ∙ e));
      first = first_more (Breaks14 s (used t)) i output w.first output' here.outputs;
      filled = filled_more (λ a j. Names s (used t) (entity_at (used t) a) j) rows i row (rw w.size (omega arith)) w.filled here.places;
    }

    pub judged-13 : lost ≡ true → Judged s (used t) (refuse 13 (entity_at t.entities i).offset)
    judged-13 e =
        rw (← at_place i h)
        (thirteen i (rw many h) (record { within = omega (arith, many); before = w.lost; here = λ l. here.nothing.0 e }))

  module _ (all : t.count ≤ i) where
    full : i ≡ length (used t)
    full = omega (arith, w.within, many)

    none-lost : NoEntity (used t) (Breaks13 s (used t))
    none-lost k l = w.lost k (omega (arith, many))

    first_out : First (Breaks14 s (used t)) (length (used t)) output
    first_out = subst (λ (n : ℕ). First (Breaks14 s (used t)) n output) full w.first

    pub judged-14 : output < t.count → Judged s (used t) (refuse 14 (entity_at t.entities output).offset)
    judged-14 l = rw (← at_place output l) (fourteen output (rw many l) none-lost first_out)

    module _ (no : t.count ≤ output) (r : ℕ) (loop : FirstLoop (Edge rows) places r) where
      none_out : NoEntity (used t) (Breaks14 s (used t))
      none_out k l = first_out.before k (omega (arith, many))

      same : (a b : ℕ) → Edge rows a b ↔ Feeds s (used t) a b
      same a b =
          subst (λ (n : ℕ). Edge rows a b ↔ ((a < n) × Names s (used t) (entity_at (used t) a) b)) full
          (filled-all (λ k j. Names s (used t) (entity_at (used t) k) j) rows i w.filled a b)

      few' : length (used t) ≤ places
      few' = rw many few

      pub judged-15 : r < t.count → Judged s (used t) (refuse 15 (entity_at t.entities r).offset)
      judged-15 l =
          rw (← at_place r l)
          (fifteen r (rw many l) none-lost none_out (loop-here (Edge rows) (Feeds s (used t)) (length (used t)) places r same (λ a b e. e.0) few' loop (rw many l)))

      pub judged-fine : t.count ≤ r → Judged s (used t) accept
      judged-fine l = fine none-lost none_out (loop-none (Edge rows) (Feeds s (used t)) (length (used t)) places r same (λ a b e. e.0) few' loop (rw many l))
