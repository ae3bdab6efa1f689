-- A streaming block is accepted exactly when no rule is broken, and refused by (k, o) exactly when k is the first broken rule at the first place.
use Rattle.rules.specs.Verdicts.{Verdict, accept, refuse}
use Prim.Native.Nat.{ℕ, zero, suc, ◌+◌, ◌≤◌, ◌<◌}
use mathlib.Core.Path.{◌≡◌, refl, sym, ap, ◌∙◌}
use mathlib.Core.List.{List}
use mathlib.Core.Bool.{Bool, true, false, not, ◌||◌, true≢false}
use mathlib.Core.Logic.{◌↔◌}
use lib.ListN.{length}
use lib.Dec.{eqb, ltb}
use borrow.Author.Tests.{eq-eqb, ne_eqb, le-ltb, eqb-true, eqb-false, ltb-true, ltb-false}
use native.Mathlib.Omega.{arith}
use Rattle.rules.specs.IfElse.{if_else}
use Rattle.rules.specs.First.{NoneBelow, First}
use Rattle.rules.specs.Walk.{Outcome, done, stop, walk}
use Rattle.rules.specs.Numbered.{first_row, Given}
use Rattle.rules.proofs.Rows.{row_first, row-none, none_row, given-row, given-number}
use Rattle.rules.proofs.Firsts.{first-map, first-unique, none_below}
use Rattle.rules.proofs.Verdicts.{apart, same-refusal}
use Rattle.rules.proofs.Walks.{walk-done, walk-stop}
use Rattle.entities.specs.declared.Table.{Table}
use Rattle.streaming_rules.specs.Rules.{head_rows}
use Rattle.streaming_descriptors.specs.declared.Format.{Format}
use Rattle.streaming_rules.proofs.Fine.{head-numbered}
use Rattle.rules.specs.Place.{first_place}
use Rattle.streaming.specs.Answer.{Seen, format_count, count_under, refused_by, accepted_with}
use Rattle.streaming.specs.Inner.{count_broken, default_broken, late_by, late, answer, after_walk, after_head, streaming_of}
use Rattle.streaming.specs.Broken.{BlockRight, block_course, format_in, CountWrong, DefaultWrong, Walked, Sound, FirstBroken, by-block, by-descriptor, by-36, by-37, by-38}
use Rattle.streaming.specs.declared.Streaming.{Streaming}
use Rattle.rules.proofs.Places.{Says, first-place}
use Rattle.streaming.proofs.Going.{steady}

-- ---- the tests of 36 and 37 say what the rules say
count-wrong : (m n : ℕ) → not (eqb m n) ≡ true → m ≡ n → ⊥
count-wrong m n h e = true≢false (sym h ∙ (rw (eq-eqb m n e)))

wrong-count : (m n : ℕ) → (m ≡ n → ⊥) → not (eqb m n) ≡ true
wrong-count m n h = rw (ne_eqb m n h)

default-wrong : (f : Format) → default_broken f ≡ true → (1 ≤ f.default) × (f.default ≤ f.frames) → ⊥
unfolding default_broken
default-wrong f h r = true≢false (sym h ∙ (rw (ne_eqb f.default 0 (λ e. omega (arith, r.0)), le-ltb f.frames f.default r.1)))

wrong-default : (f : Format) → ((1 ≤ f.default) × (f.default ≤ f.frames) → ⊥) → default_broken f ≡ true
unfolding default_broken
wrong-default f h = go (eqb f.default 0) refl (ltb f.frames f.default) refl
  where
    go : (b : Bool) → eqb f.default 0 ≡ b → (c : Bool) → ltb f.frames f.default ≡ c → (b || c) ≡ true
    go true p c q = refl
    go false p true q = refl
    go false p false q = absurd (h (let n = eqb-false f.default 0 p in (omega (arith, n), ltb-false f.frames f.default q)))

module _ (s : List ℕ) (a : Seen) where
  n : ℕ
  n = length a.formats

  -- the first places that break 36 and 37
  i : ℕ
  i = first_place (λ i. count_broken (format_in a i) (count_under (i + 1) a.frames)) (length a.formats)

  j : ℕ
  j = first_place (λ i. default_broken (format_in a i)) (length a.formats)

  first_count : First (CountWrong a) (length a.formats) i
  unfolding i
  first_count =
      first-map (Says (λ i. count_broken (format_in a i) (count_under (i + 1) a.frames))) (CountWrong a) (length a.formats) i
      (λ k l h. count-wrong (format_in a k).frames (count_under (k + 1) a.frames) h) (λ k l h. wrong-count (format_in a k).frames (count_under (k + 1) a.frames) h)
      (first-place (λ i. count_broken (format_in a i) (count_under (i + 1) a.frames)) (length a.formats))

  first-default : First (DefaultWrong a) (length a.formats) j
  unfolding j
  first-default =
      first-map (Says (λ i. default_broken (format_in a i))) (DefaultWrong a) (length a.formats) j
      (λ k l h. default-wrong (format_in a k) h) (λ k l h. wrong-default (format_in a k) h)
      (first-place (λ i. default_broken (format_in a i)) (length a.formats))

  -- what comes after the walk
  pub data After : Verdict → Type 0 where
    at_count : (i : ℕ) → i < length a.formats → First (CountWrong a) (length a.formats) i → After (refuse 36 (format_in a i).offset)
    at_default : NoneBelow (length a.formats) (CountWrong a) → (i : ℕ) → i < length a.formats → First (DefaultWrong a) (length a.formats) i → After (refuse 37 (format_in a i).offset)
    at-number : NoneBelow (length a.formats) (CountWrong a) → NoneBelow (length a.formats) (DefaultWrong a) → (length a.formats ≡ format_count s → ⊥) → After (refuse 38 0)
    well : NoneBelow (length a.formats) (CountWrong a) → NoneBelow (length a.formats) (DefaultWrong a) → length a.formats ≡ format_count s → After accept

  pub late_is : After (late s a)
  unfolding late_by if_else i j
  late_is = go (ltb i (length a.formats)) refl (ltb j (length a.formats)) refl (eqb (length a.formats) (format_count s)) refl
    where
      go : (b : Bool) → ltb i (length a.formats) ≡ b → (c : Bool) → ltb j (length a.formats) ≡ c → (d : Bool) → eqb (length a.formats) (format_count s) ≡ d → After (if_else b (refuse 36 (format_in a i).offset) (if_else c (refuse 37 (format_in a j).offset) (if_else d accept (refuse 38 0))))
      go true p c q d r = at_count i (ltb-true i (length a.formats) p) first_count
      go false p true q d r = at_default (none_below _ _ i first_count (ltb-false i _ p)) j (ltb-true j (length a.formats) q) first-default
      go false p false q true r = well (none_below _ _ i first_count (ltb-false i _ p)) (none_below _ _ j first-default (ltb-false j _ q)) (eqb-true _ _ r)
      go false p false q false r = at-number (none_below _ _ i first_count (ltb-false i _ p)) (none_below _ _ j first-default (ltb-false j _ q)) (eqb-false _ _ r)

  -- one verdict comes after a walk
  after-unique : {v w : Verdict} → After v → After w → v ≡ w
  after-unique (at_count i l f) (at_count j m g) = ap (λ (k : ℕ). refuse 36 (format_in a k).offset) (first-unique (CountWrong a) (length a.formats) i j f g)
  after-unique (at_count i l f) (at_default c j m g) = absurd (c i l (f.here l))
  after-unique (at_count i l f) (at-number c d e) = absurd (c i l (f.here l))
  after-unique (at_count i l f) (well c d e) = absurd (c i l (f.here l))
  after-unique (at_default b i l f) (at_count j m g) = absurd (b j m (g.here m))
  after-unique (at_default b i l f) (at_default c j m g) = ap (λ (k : ℕ). refuse 37 (format_in a k).offset) (first-unique (DefaultWrong a) (length a.formats) i j f g)
  after-unique (at_default b i l f) (at-number c d e) = absurd (d i l (f.here l))
  after-unique (at_default b i l f) (well c d e) = absurd (d i l (f.here l))
  after-unique (at-number b x y) (at_count j m g) = absurd (b j m (g.here m))
  after-unique (at-number b x y) (at_default c j m g) = absurd (x j m (g.here m))
  after-unique (at-number b x y) (at-number c d e) = refl
  after-unique (at-number b x y) (well c d e) = absurd (y e)
  after-unique (well b x y) (at_count j m g) = absurd (b j m (g.here m))
  after-unique (well b x y) (at_default c j m g) = absurd (x j m (g.here m))
  after-unique (well b x y) (at-number c d e) = absurd (e y)
  after-unique (well b x y) (well c d e) = refl

  late-given : {v : Verdict} → After v → late s a ≡ v
  late-given w = after-unique late_is w

-- what reading comes to
pub data Ends (t : Table) (s : List ℕ) : Streaming → Type 0 where
  taken : (a : Seen) → Sound t s a → Ends t s (accepted_with s a)
  given_back : (k o : ℕ) → FirstBroken t s k o → Ends t s (refused_by k o)

module _ (t : Table) (s : List ℕ) where
  head-none : first_row (head_rows t.count s) ≡ 0 → BlockRight t s
  head-none h = row-none (head_rows t.count s) (head-numbered t.count s) h

  past_head : BlockRight t s → streaming_of t s ≡ after_walk s (walk (block_course t s))
  unfolding streaming_of after_head
  past_head h = rw (none_row (head_rows t.count s) h)

  at_head : (k : ℕ) → first_row (head_rows t.count s) ≡ suc k → streaming_of t s ≡ refused_by (suc k) 0
  unfolding streaming_of after_head
  at_head k h = rw h

  after-done : (a : Seen) → Walked t s a → (v : Verdict) → After s a v → Ends t s (answer v s a)
  after-done a w v (at_count i l f) = given_back 36 (format_in a i).offset (by-36 a w i l f)
  after-done a w v (at_default c i l f) = given_back 37 (format_in a i).offset (by-37 a w c i l f)
  after-done a w v (at-number c d e) = given_back 38 0 (by-38 a w c d e)
  after-done a w v (well c d e) = taken a (record { walked = w; counts = c; defaults = d; number = e })

  after-all : BlockRight t s → (x : Outcome Seen) → walk (block_course t s) ≡ x → Ends t s (after_walk s x)
  unfolding after_walk
  after-all b (done a) e =
      let p = (walk-done (block_course t s) (steady _ s) a).0 e in
      after-done a (record { block = b; each = p.1; there = p.0 }) (late s a) (late_is s a)
  after-all b (stop k o) e = given_back k o (by-descriptor k o b ((walk-stop (block_course t s) (steady _ s) k o).0 e))

  -- every block comes to one or the other
  pub reads : Ends t s (streaming_of t s)
  reads = go (first_row (head_rows t.count s)) refl
    where
      go : (k : ℕ) → first_row (head_rows t.count s) ≡ k → Ends t s (streaming_of t s)
      go zero h = let n = head-none h in rw (past_head n) (after-all n (walk (block_course t s)) refl)
      go (suc k) h = rw (at_head k h) (given_back (suc k) 0 (by-block (suc k) ((row_first (head_rows t.count s) k).0 h)))

  -- ---- the other way round
  done-by : (a : Seen) → Walked t s a → (v : Verdict) → After s a v → streaming_of t s ≡ answer v s a
  unfolding after_walk
  done-by a w v r = past_head w.block ∙ (rw ((walk-done (block_course t s) (steady _ s) a).1 (w.there, w.each), late-given s a r))

  pub tables : (a : Seen) → Sound t s a → streaming_of t s ≡ accepted_with s a
  tables a w = done-by a w.walked accept (well w.counts w.defaults w.number)

  head-given : (k : ℕ) → Given (head_rows t.count s) k → streaming_of t s ≡ refused_by k 0
  head-given zero g = absurd (omega (arith, given-number g (head-numbered t.count s)))
  head-given (suc k) g = at_head k (given-row g)

  pub all-zero : {k o : ℕ} → FirstBroken t s k o → streaming_of t s ≡ refused_by k o
  unfolding after_walk
  all-zero (by-block k g) = head-given k g
  all-zero (by-descriptor k o b f) = past_head b ∙ (rw ((walk-stop (block_course t s) (steady _ s) k o).1 f))
  all-zero (by-36 a w i l f) = done-by a w (refuse 36 (format_in a i).offset) (at_count i l f)
  all-zero (by-37 a w c i l f) = done-by a w (refuse 37 (format_in a i).offset) (at_default c i l f)
  all-zero (by-38 a w c d e) = done-by a w (refuse 38 0) (at-number c d e)

  -- ---- EXACTLY WHEN
  -- accepted exactly when no rule is broken
  pub accepted : ((streaming_of t s).verdict ≡ accept) ↔ ((a : Seen) × Sound t s a)
  unfolding accepted_with refused_by
  accepted = (to (streaming_of t s) reads, λ p. ap (λ (x : Streaming). x.verdict) (tables p.0 p.1))
    where
      to : (x : Streaming) → Ends t s x → x.verdict ≡ accept → (a : Seen) × Sound t s a
      to x (taken a w) e = (a, w)
      to x (given_back k o w) e = absurd (apart k o e)

  -- refused by (k, o) exactly when k is the first broken rule, at the first place that breaks it
  pub refused : (k o : ℕ) → ((streaming_of t s).verdict ≡ refuse k o) ↔ FirstBroken t s k o
  unfolding accepted_with refused_by
  refused k o = (to (streaming_of t s) reads, λ w. ap (λ (x : Streaming). x.verdict) (all-zero w))
    where
      to : (x : Streaming) → Ends t s x → x.verdict ≡ refuse k o → FirstBroken t s k o
      to x (taken a w) e = absurd (apart k o (sym e))
      to x (given_back j p w) e = let q = same-refusal j p k o e in rw (← q.0, ← q.1) w
