-- Chains whose inner nodes are below k, and how one round takes k to k + 1.
use Prim.Native.Nat.{ℕ, ◌+◌, ◌≤◌, ◌<◌}
use mathlib.Core.Path.{◌≡◌, refl, sym, ap, ◌∙◌, subst}
use mathlib.Core.Logic.{◌⊎◌, inl, inr, ⊎_elim, ◌↔◌, ◌≢◌}
use mathlib.Core.List.{List}
use native.Mathlib.Omega.{arith}
use lib.ListN.{length, get_or, set, length-set, get_or-eq_default}
use lib.Seq.{get_or-set_same, get_or-set_other}
use lib.Bits.{bit_or}
use borrow.Author.Count.{below_more}
use Rattle.rules.specs.Chain.{Chain, Chain.one, Chain.more}
use Rattle.rules.proofs.Firsts.{lt-or-ge}
use Rattle.bits.specs.Bits.{bit_of, Bit}
use Rattle.rules.proofs.Firsts.{below-or-at}
use Rattle.bits.proofs.Bits.{bit-zero, or_cases, or_l, or_r}
use Rattle.graph.specs.Rows.{places, Edge, Through}

pub data Via (E : ℕ → ℕ → Type 0) (k : ℕ) : ℕ → ℕ → Type 0 where
  straight : {i j : ℕ} → E i j → Via E k i j
  over : {i m j : ℕ} → E i m → m < k → Via E k m j → Via E k i j

module _ (E : ℕ → ℕ → Type 0) where
  pub via-more : {k i j : ℕ} → Via E k i j → Via E (k + 1) i j
  via-more (straight e) = straight e
  via-more (over e l v) = over e (omega arith) (via-more v)

  via-join-at : {k i n j : ℕ} → Via E k i n → n ≡ k → Via E k n j → Via E (k + 1) i j
  via-join-at (straight e) q w = over e (omega arith) (via-more w)
  via-join-at (over e l v) q w = over e (omega arith) (via-join-at v q w)

  pub via-join : {k i j : ℕ} → Via E k i k → Via E k k j → Via E (k + 1) i j
  via-join v w = via-join-at v refl w

  -- the split at k
  pub via-split : {k i j : ℕ} → Via E (k + 1) i j → Via E k i j ⊎ (Via E k i k × Via E k k j)
  via-split (straight e) = inl (straight e)
  via-split {k} {i} {j} (over {m = m} e l v) = go (via-split v) (below-or-at m k l)
    where
      at : {m : ℕ} → E i m → Via E k m j ⊎ (Via E k m k × Via E k k j) → m ≡ k → Via E k i j ⊎ (Via E k i k × Via E k k j)
      at e s q =
          ⊎_elim
          (λ w. inr (straight (subst (E i) q e), subst (λ (n : ℕ). Via E k n j) q w))
          (λ w. inr (straight (subst (E i) q e), w.1)) s

      go : Via E k m j ⊎ (Via E k m k × Via E k k j) → (m < k) ⊎ (m ≡ k) → Via E k i j ⊎ (Via E k i k × Via E k k j)
      go (inl w) (inl h) = inl (over e h w)
      go (inr w) (inl h) = inr (over e h w.0, w.1)
      go (inl w) (inr q) = at e (inl w) q
      go (inr w) (inr q) = at e (inr w) q

  pub via-zero : {i j : ℕ} → Via E 0 i j → E i j
  via-zero (straight e) = e
  via-zero (over e l v) = absurd (omega arith)

  pub via-chain : {k i j : ℕ} → Via E k i j → Chain E i j
  via-chain (straight e) = one e
  via-chain (over e l v) = more e (via-chain v)

  -- where only nodes below n have an edge, n is enough
  module _ (n : ℕ) (from : (i j : ℕ) → E i j → i < n) where
    chain-from : {i j : ℕ} → Chain E i j → i < n
    chain-from (one e) = from _ _ e
    chain-from (more e c) = from _ _ e

    pub chain-via : {i j : ℕ} → Chain E i j → Via E n i j
    chain-via (one e) = straight e
    chain-via (more e c) = over e (chain-from c) (chain-via c)

-- an empty row draws no edge
no_edge : (m : List ℕ) (k j : ℕ) → get_or m k 0 ≡ 0 → Edge m k j → ⊥
no_edge m k j z e = omega (arith, bit-zero j, sym (ap (λ (x : ℕ). bit_of x j) z) ∙ e)

-- an edge starts at a row
pub edge-from : (m : List ℕ) (i j : ℕ) → Edge m i j → (n : ℕ) → length m ≡ n → i < n
edge-from m i j e n l =
    ⊎_elim (λ h. h) (λ h. absurd (no_edge m i j (get_or-eq_default m 0 (omega arith)) e)) (lt-or-ge i n)

-- where row k is empty no two edges lead by way of k: the rows are what a round would make of them
pub empty-adds-nothing : (m : List ℕ) (k : ℕ) → get_or m k 0 ≡ 0 → (i j : ℕ) → Edge m i j ↔ Through (Edge m) k i j
empty-adds-nothing m k z i j = (λ e. inl e, λ t. ⊎_elim (λ p. p) (λ p. absurd (no_edge m k j z p.1)) t)

-- the rows stand for the chains through nodes below k
abbrev pub Stands : (ℕ → ℕ → Type 0) → ℕ → List ℕ → Type 0
Stands E k m = (i j : ℕ) → Edge m i j ↔ Via E k i j

pub round-stands : (E : ℕ → ℕ → Type 0) (k : ℕ) (m m' : List ℕ) → Stands E k m → ((i j : ℕ) → Edge m' i j ↔ Through (Edge m) k i j) → Stands E (k + 1) m'
round-stands E k m m' s r i j = (
  λ e. ⊎_elim (λ p. via-more E ((s i j).0 p)) (λ p. via-join E ((s i k).0 p.0) ((s k j).0 p.1)) ((r i j).0 e),
  λ v. (r i j).1 (⊎_elim (λ w. inl ((s i j).1 w)) (λ w. inr ((s i k).1 w.0, (s k j).1 w.1)) (via-split E v)),
)

-- ---- one round, row by row: the rows below i are done, the others are as they were
pub record Rounding (m₀ : List ℕ) (k : ℕ) (m : List ℕ) (i : ℕ) : Type 0 where
  pub within : i ≤ places
  pub size : length m ≡ places
  pub done : (a : ℕ) → a < i → (j : ℕ) → Edge m a j ↔ Through (Edge m₀) k a j
  pub rest : (a : ℕ) → i ≤ a → get_or m a 0 ≡ get_or m₀ a 0

pub rounding : (m : List ℕ) (k : ℕ) → length m ≡ places → Rounding m k m 0
rounding m k e = record { within = omega arith; size = e; done = λ a l. absurd (omega arith); rest = λ a l. refl }

module _ (m₀ : List ℕ) (k : ℕ) (m : List ℕ) (i : ℕ) (w : Rounding m₀ k m i) where
  -- row k stands as it did, done or not
  row-k : (j : ℕ) → Edge m k j ↔ Edge m₀ k j
  row-k j =
      ⊎_elim (λ h. (λ e. ⊎_elim (λ p. p) (λ p. p.1) ((w.done k h j).0 e), λ e. (w.done k h j).1 (inl e)))
      (λ h. (λ e. rw (w.rest k h) at e, λ e. rw (w.rest k h) e)) (lt-or-ge k i)

  row-i : (j : ℕ) → Edge m i j ↔ Edge m₀ i j
  row-i j = let q : get_or m i 0 ≡ get_or m₀ i 0 = w.rest i (omega arith) in (λ e. rw q at e, λ e. rw q e)

  turned : (m' : List ℕ) → i < places → length m' ≡ places → ((j : ℕ) → Edge m' i j ↔ Through (Edge m) k i j) → ((a : ℕ) → a ≢ i → get_or m' a 0 ≡ get_or m a 0) → Rounding m₀ k m' (i + 1)
  turned m' l len here other =
      record { within = omega arith; size = len; done = done; rest = λ a h. other a (λ q. omega arith) ∙ w.rest a (omega arith) }
    where
      at_i : (j : ℕ) → Edge m' i j ↔ Through (Edge m₀) k i j
      at_i j = (
        λ e. ⊎_elim (λ p. inl ((row-i j).0 p)) (λ p. inr ((row-i k).0 p.0, (row-k j).0 p.1)) ((here j).0 e),
        λ t. (here j).1 (⊎_elim (λ p. inl ((row-i j).1 p)) (λ p. inr ((row-i k).1 p.0, (row-k j).1 p.1)) t),
      )

      before : (a : ℕ) → a < i → (j : ℕ) → Edge m' a j ↔ Through (Edge m₀) k a j
      before a h = let q : get_or m' a 0 ≡ get_or m a 0 = other a (λ e. omega arith) in rw q (w.done a h)

      done : (a : ℕ) → a < i + 1 → (j : ℕ) → Edge m' a j ↔ Through (Edge m₀) k a j
      done = below_more (λ (a : ℕ). (j : ℕ) → Edge m' a j ↔ Through (Edge m₀) k a j) i before at_i

  -- a row that leads to k takes in row k; another stays
  pub taken_in : i < places → Bit (get_or m i 0) k → Rounding m₀ k (set m i (bit_or (get_or m i 0) (get_or m k 0))) (i + 1)
  taken_in l b =
      turned (set m i (bit_or x y)) l (length-set m i (bit_or x y) ∙ w.size) here (λ a n. get_or-set_other m i a (bit_or x y) 0 n)
    where
      x : ℕ
      x = get_or m i 0

      y : ℕ
      y = get_or m k 0

      here : (j : ℕ) → Edge (set m i (bit_or x y)) i j ↔ Through (Edge m) k i j
      here j =
          let q : get_or (set m i (bit_or x y)) i 0 ≡ bit_or x y = get_or-set_same m i (bit_or x y) 0 (rw w.size l) in
          rw q (λ e. ⊎_elim (λ p. inl p) (λ p. inr (b, p)) (or_cases x y j e), λ t. ⊎_elim (λ p. or_l x y j p) (λ p. or_r x y j p.1) t)

  pub stays : i < places → (Bit (get_or m i 0) k → ⊥) → Rounding m₀ k m (i + 1)
  stays l b =
      turned m l w.size (λ j. (λ e. inl e, λ t. ⊎_elim (λ p. p) (λ p. absurd (b p.0)) t)) (λ a n. refl)

-- past the rows there are no edges
pub rounded : (m₀ : List ℕ) (k : ℕ) (m : List ℕ) (i : ℕ) → length m₀ ≡ places → Rounding m₀ k m i → places ≤ i → (a j : ℕ) → Edge m a j ↔ Through (Edge m₀) k a j
rounded m₀ k m i z w l a j =
    ⊎_elim (λ h. w.done a (omega arith) j)
    (λ h. (λ e. absurd (omega (arith, edge-from m a j e places w.size)), λ t. absurd (⊎_elim (λ e. omega (arith, edge-from m₀ a j e places z)) (λ p. omega (arith, edge-from m₀ a k p.0 places z)) t)))
    (lt-or-ge a places)
