-- The walk over the descriptors, and the line of them: they are the same. And what a search finds in it, in words.
use Prim.Native.Nat.{ℕ, zero, suc, ◌+◌, ◌-◌, ◌≤◌, ◌<◌}
use mathlib.Core.Path.{◌≡◌, refl, sym, ap, ◌∙◌}
use mathlib.Core.List.{List, [], ◌∷◌, ◌++◌, append-nil}
use mathlib.Core.Bool.{Bool, true, false, true≢false}
use mathlib.Core.Logic.{⊎_elim, ◌↔◌}
use lib.ListN.{length, take, get_or, length-append}
use lib.Seq.{append_snoc, get_or-append-add, get_or-append_seam}
use lib.Dec.{ltb}
use borrow.Author.Tests.{lt-ltb, le-ltb}
use native.Mathlib.Omega.{arith}
use native.Mathlib.Nat.{eq-or-lt_of_le}
use Rattle.rules.specs.IfElse.{if_else}
use Rattle.rules.specs.Walk.{Reached, first, next, Clean, Outcome, done, stop, walk_from, walk}
use Rattle.rules.proofs.Firsts.{lt-or-ge}
use Rattle.rules.proofs.Walks.{Steady, step-done, step-bad, step-on}
use Rattle.blocks.specs.Blocks.{len_at}
use Rattle.configuration_rules.specs.Descriptors.{broken_at, after_at, is_sought}
use Rattle.configuration_rules.specs.declared.Sought.{Sought}
use Rattle.configuration_rules.specs.declared.Sought.TheVariants.{Broken, Outside}
use Rattle.configuration_rules.proofs.Deciding.{kept, outside}
use Rattle.interfaces.specs.Line.{course, those}
use Rattle.interfaces.specs.Inner.{line, found, head_or, next_of}
use Rattle.interfaces.proofs.Lines.{Next, after_on, after-whole, line-end, line-more, next-end, next_here, next-skip, next-is, found_here}
use Rattle.configuration_layout.specs.Words.{Starts, Lists, Run}

-- ---- lists that rise: from b on, each element above the last
abbrev pub Rises : ℕ → List ℕ → Type 0
Rises b [] = Unit {0}
Rises b (x ∷ l) = (b ≤ x) × Rises (suc x) l

weaken : (b c : ℕ) (l : List ℕ) → b ≤ c → Rises c l → Rises b l
weaken b c [] h r = tt
weaken b c (x ∷ l) h r = (omega (arith, r.0), r.1)

rises-least : (b : ℕ) (l : List ℕ) → Rises b l → (i : ℕ) → i < length l → b ≤ get_or l i 0
rises-least b [] r i h = absurd (omega arith)
rises-least b (x ∷ l) r zero h = r.0
rises-least b (x ∷ l) r (suc i) h = omega (arith, r.0, rises-least (suc x) l r.1 i (omega arith))

pub rises-order : (b : ℕ) (l : List ℕ) → Rises b l → (i j : ℕ) → i < j → j < length l → get_or l i 0 < get_or l j 0
rises-order b [] r i j h k = absurd (omega arith)
rises-order b (x ∷ l) r i zero h k = absurd (omega arith)
rises-order b (x ∷ l) r zero (suc j) h k = omega (arith, rises-least (suc x) l r.1 j (omega arith))
rises-order b (x ∷ l) r (suc i) (suc j) h k = rises-order (suc x) l r.1 i j (omega arith) (omega arith)

head-least : (d b : ℕ) (l : List ℕ) → Rises b l → (i : ℕ) → i < length l → head_or d l ≤ get_or l i 0
head-least d b [] r i h = absurd (omega arith)
head-least d b (x ∷ l) r zero h = omega arith
head-least d b (x ∷ l) r (suc i) h = omega (arith, rises-least (suc x) l r.1 i (omega arith))

pub said-no : (b : Bool) → (b ≡ true → ⊥) → b ≡ false
said-no true h = absurd (h refl)
said-no false h = refl

-- ---- those of a list
those-rises : (f : ℕ → Bool) (b : ℕ) (l : List ℕ) → Rises b l → Rises b (those f l)
unfolding those if_else
those-rises f b [] r = tt
those-rises f b (x ∷ l) r = go (f x) (those-rises f (suc x) l r.1)
  where
    go : (t : Bool) → Rises (suc x) (those f l) → Rises b (if_else t (x ∷ those f l) (those f l))
    go true q = (r.0, q)
    go false q = weaken b (suc x) (those f l) (omega (arith, r.0)) q

those-each : (f : ℕ → Bool) (l : List ℕ) (i : ℕ) → i < length (those f l) → (j : ℕ) × (j < length l) × (get_or l j 0 ≡ get_or (those f l) i 0) × (f (get_or (those f l) i 0) ≡ true)
unfolding those if_else
those-each f [] i h = absurd (omega arith)
those-each f (x ∷ l) i h = go (f x) refl i h (those-each f l)
  where
    go : (t : Bool) → f x ≡ t → (i : ℕ) → i < length (if_else t (x ∷ those f l) (those f l))
        → ((k : ℕ) → k < length (those f l) → (j : ℕ) × (j < length l) × (get_or l j 0 ≡ get_or (those f l) k 0) × (f (get_or (those f l) k 0) ≡ true))
        → (j : ℕ) × (j < suc (length l)) × (get_or (x ∷ l) j 0 ≡ get_or (if_else t (x ∷ those f l) (those f l)) i 0) × (f (get_or (if_else t (x ∷ those f l) (those f l)) i 0) ≡ true)
    go true e zero h r = (0, omega arith, refl, e)
    go true e (suc i) h r = let q = r i (omega arith) in (suc q.0, omega (arith, q.1), q.2, q.3)
    go false e i h r = let q = r i h in (suc q.0, omega (arith, q.1), q.2, q.3)

those-all : (f : ℕ → Bool) (l : List ℕ) (j : ℕ) → j < length l → f (get_or l j 0) ≡ true → (i : ℕ) × (i < length (those f l)) × (get_or (those f l) i 0 ≡ get_or l j 0)
unfolding those if_else
those-all f [] j h q = absurd (omega arith)
those-all f (x ∷ l) zero h q = rw q (0, omega arith, refl)
those-all f (x ∷ l) (suc j) h q = go (f x) (those-all f l j (omega arith) q)
  where
    go : (t : Bool) → (i : ℕ) × (i < length (those f l)) × (get_or (those f l) i 0 ≡ get_or l j 0)
        → (i : ℕ) × (i < length (if_else t (x ∷ those f l) (those f l))) × (get_or (if_else t (x ∷ those f l) (those f l)) i 0 ≡ get_or l j 0)
    go true e = (suc e.0, omega (arith, e.1), e.2)
    go false e = e

pub line-rises : (s : List ℕ) (n o : ℕ) → length s ≤ o + n → Rises o (line s o)
line-rises s zero o l = rw (line-end s o (omega arith)) tt
line-rises s (suc n) o l =
    ⊎_elim
    (λ h. let p = after_on s o h in rw (line-more s o h) (omega arith, weaken (suc o) (after_at s o) (line s (after_at s o)) p.0 (line-rises s n (after_at s o) (omega (arith, p.0)))))
    (λ h. rw (line-end s o h) tt) (lt-or-ge o (length s))

module _ (s : List ℕ) where
  -- ---- the walk comes to the line, or stops at the first that breaks 70
  pub steady : Steady (course s)
  steady = record { numbered = λ a o. (omega arith, tt); onward = λ a o h n. omega (arith, ((kept s o).0 n.0).two); inside = λ a o h n. ((kept s o).0 n.0).inside }

  ends-from : List ℕ → ℕ → Outcome (List ℕ)
  ends-from a o = if_else (ltb (next_of Broken s o) (length s)) (stop 70 (next_of Broken s o)) (done (a ++ line s o))

  at-end : (a : List ℕ) (o : ℕ) → length s ≤ o → ends-from a o ≡ done a
  unfolding ends-from if_else
  at-end a o h = let z : length s ≤ length s = omega arith in rw (next-end s Broken o h, le-ltb (length s) (length s) z, line-end s o h, append-nil)

  walk_from_lem : (n : ℕ) (a : List ℕ) (o : ℕ) → length s ≤ o + n → walk_from n (course s) a o ≡ ends-from a o
  unfolding walk_from ends-from if_else is_sought
  walk_from_lem zero a o l = sym (at-end a o (omega arith))
  walk_from_lem (suc n) a o l =
      ⊎_elim (λ h. on h (broken_at s o) refl (λ p. walk_from_lem n (a ++ (o ∷ [])) (o + len_at s o) (omega (arith, p)))) (λ h. step-done (course s) (suc n) a o h ∙ sym (at-end a o h)) (lt-or-ge o (length s))
    where
      on : o < length s → (b : Bool) → broken_at s o ≡ b → (0 < len_at s o → walk_from n (course s) (a ++ (o ∷ [])) (o + len_at s o) ≡ ends-from (a ++ (o ∷ [])) (o + len_at s o)) → walk_from (suc n) (course s) a o ≡ ends-from a o
      on h true e f = step-bad (course s) (suc n) a o 69 h (omega arith) (rw e) ∙ (rw (next_here s Broken o h e, lt-ltb o (length s) h))
      on h false e f =
          step-on (course s) n a o h (omega arith) (rw e) ∙ f (omega (arith, ((kept s o).0 e).two))
          ∙ (rw (next-skip s Broken o h e, line-more s o h, after-whole s o e, append_snoc))

  pub walk-line : walk (course s) ≡ if_else (ltb (next_of Broken s 0) (length s)) (stop 70 (next_of Broken s 0)) (done (line s 0))
  unfolding walk ends-from
  walk-line = walk_from_lem (length s) [] 0 (omega arith)

  module _ (clean : Clean (course s)) where
    step_is : {a : List ℕ} {o : ℕ} → Reached (course s) a o → o < length s → after_at s o ≡ o + len_at s o
    step_is {a} {o} r h = after-whole s o (clean a o r h).0

    steps : {a : List ℕ} {o : ℕ} → Reached (course s) a o → o < length s → Reached (course s) (a ++ (o ∷ [])) (after_at s o)
    steps {a} {o} r h =
        let k = (kept s o).0 (clean a o r h).0 in
        rw (step_is r h) (next r h (omega (arith, k.two)) k.inside)

    -- the line goes on from each place that is reached
    pub reached-line : {a : List ℕ} {o : ℕ} → Reached (course s) a o → line s 0 ≡ a ++ line s o
    reached-line first = refl
    reached-line (next {a = a} {o = o} r h p q) = reached-line r ∙ (rw (line-more s o h, step_is r h) (sym (append_snoc a o (line s (o + len_at s o)))))

    -- a line with a place in it does not start at the end
    some : {a : List ℕ} {o : ℕ} → Reached (course s) a o → (i : ℕ) → i < length (line s o) → o < length s
    some {a} {o} r i b = ⊎_elim (λ h. h) (λ h. absurd (omega (arith, ap length (line-end s o h)))) (lt-or-ge o (length s))

    -- and each place of the line is reached
    pub reached-at : {a : List ℕ} {o : ℕ} → Reached (course s) a o → (i : ℕ) → i < length (line s o) → Reached (course s) (a ++ take i (line s o)) (get_or (line s o) i 0) × (get_or (line s o) i 0 < length s)
    reached-at {a} {o} r zero b = let h = some r 0 b in rw (line-more s o h, append-nil) (r, h)
    reached-at {a} {o} r (suc i) b =
        let h = some r (suc i) b in
        let c : i < length (line s (after_at s o)) = omega (arith, ap length (line-more s o h)) in
        rw (line-more s o h) (rw append_snoc at (reached-at {a = a ++ (o ∷ [])} {o = after_at s o} (steps r h) i c))

    starts-at : {a : List ℕ} {o : ℕ} → Reached (course s) a o → (i : ℕ) → i < length (line s o) → Starts s (get_or (line s o) i 0)
    starts-at {a} {o} r i b = let p = reached-at r i b in record { seen = a ++ take i (line s o); there = p.0; inside = p.1 }

    -- where a descriptor stands in the line
    pub place_in : {a : List ℕ} {o : ℕ} → Reached (course s) a o → o < length s → (length a < length (line s 0)) × (get_or (line s 0) (length a) 0 ≡ o)
    place_in {a} {o} r h =
        let e : line s 0 ≡ a ++ (o ∷ line s (after_at s o)) = reached-line r ∙ (rw (line-more s o h)) in
        rw e (simp length-append (omega arith), get_or-append_seam a o (line s (after_at s o)) 0)

    -- ---- what a search finds, in words
    pub lists : (w : Sought) (P : ℕ → Type 0) → ((o : ℕ) → (is_sought w s o ≡ true) ↔ P o) → Lists s P (found w s 0)
    unfolding found
    lists w P d = record {
      each = λ i h. let e = those-each (is_sought w s) (line s 0) i h in (rw e.2 at (starts-at first e.0 e.1), (d (get_or (those (is_sought w s) (line s 0)) i 0)).0 e.3);
      order = λ i j h b. rises-order 0 (those (is_sought w s) (line s 0)) (those-rises (is_sought w s) 0 (line s 0) (line-rises s (length s) 0 (omega arith))) i j h b;
      all = λ o b p. let q = place_in b.there b.inside in let e = those-all (is_sought w s) (line s 0) (length b.seen) q.0 (rw q.1 ((d o).1 p)) in (e.0, e.1, e.2 ∙ q.1);
    }

    -- ---- the block behind a descriptor
    module _ {a : List ℕ} {o : ℕ} (r : Reached (course s) a o) (h : o < length s) where
      -- a descriptor from there on stands in the line from there on
      tail-place : (p : ℕ) (b : Starts s p) → length (a ++ (o ∷ [])) ≤ length b.seen → (i : ℕ) × (i < length (line s (after_at s o))) × (get_or (line s (after_at s o)) i 0 ≡ p)
      tail-place p b x =
          let t = steps r h in
          let k = place_in b.there b.inside in
          let n : length b.seen ≡ length (a ++ (o ∷ [])) + (length b.seen - length (a ++ (o ∷ []))) = omega arith in (
            length b.seen - length (a ++ (o ∷ [])),
            omega (arith, k.0, simp length-append at (ap length (reached-line t)), length-append a (o ∷ [])),
            sym (get_or-append-add (a ++ (o ∷ [])) (line s (after_at s o)) (length b.seen - length (a ++ (o ∷ []))) 0) ∙ (rw (← reached-line t, ← n) k.1),
          )

      -- of two descriptors the one that starts first stands first
      in_order : {c d : List ℕ} {p q : ℕ} → Reached (course s) c p → p < length s → Reached (course s) d q → q < length s → p < q → length c < length d
      in_order {c} {d} {p} {q} x u y v l =
          let m = place_in x u in
          let n = place_in y v in
          ⊎_elim (λ z. z)
          (λ z. ⊎_elim (λ e. absurd (omega (arith, m.1, n.1, ap (λ (k : ℕ). get_or (line s 0) k 0) e))) (λ e. absurd (omega (arith, m.1, n.1, rises-order 0 (line s 0) (line-rises s (length s) 0 (omega arith)) (length d) (length c) e m.0))) (eq-or-lt_of_le {n = length d} {m = length c} z))
          (lt-or-ge (length c) (length d))

      -- a later descriptor starts where this one ends, or behind it
      pub later-behind : (p : ℕ) → Starts s p → o < p → after_at s o ≤ p
      later-behind p b l =
          let i = tail-place p b (simp length-append (omega (arith, in_order r h b.there b.inside l))) in
          omega (arith, i.2, rises-least (after_at s o) (line s (after_at s o)) (line-rises s (length s) (after_at s o) (omega arith)) i.0 i.1)

      line-place : (p : ℕ) → Starts s p → after_at s o ≤ p → (i : ℕ) × (i < length (line s (after_at s o))) × (get_or (line s (after_at s o)) i 0 ≡ p)
      line-place p b l = tail-place p b (simp length-append (omega (arith, in_order r h b.there b.inside (omega (arith, (after_on s o h).0)))))

      module _ (w : Sought) where
        e : ℕ
        e = next_of w s (after_at s o)

        nx : Next s w (after_at s o) e
        unfolding e
        nx = next-is s w (after_at s o) (after_on s o h).1

        found-rises : Rises 0 (found w s (after_at s o))
        unfolding found
        found-rises = weaken 0 (after_at s o) (those (is_sought w s) (line s (after_at s o))) (omega arith) (those-rises (is_sought w s) (after_at s o) (line s (after_at s o)) (line-rises s (length s) (after_at s o) (omega arith)))

        -- none of what is sought stands before the one that is found
        pub not-before : (p : ℕ) → Starts s p → after_at s o ≤ p → p < next_of w s (after_at s o) → is_sought w s p ≡ true → ⊥
        unfolding found e next_of
        not-before p b l x q =
            let i = line-place p b l in
            let f = those-all (is_sought w s) (line s (after_at s o)) i.0 i.1 (rw i.2 q) in
            omega (arith, head-least (length s) 0 (those (is_sought w s) (line s (after_at s o))) found-rises f.0 f.1, f.2, i.2)

        pub stands-there : next_of w s (after_at s o) < length s → Starts s (next_of w s (after_at s o)) × (is_sought w s (next_of w s (after_at s o)) ≡ true)
        unfolding found e
        stands-there x =
            let z : those (is_sought w s) (line s (after_at s o)) ≡ e ∷ found w s (after_at s e) = sym nx.same ∙ found_here s w e x (nx.here x) in
            let n : 0 < length (those (is_sought w s) (line s (after_at s o))) = rw z (omega arith) in
            let f = those-each (is_sought w s) (line s (after_at s o)) 0 n in
            let y : get_or (line s (after_at s o)) f.0 0 ≡ e = f.2 ∙ (rw z) in
            (rw y at (starts-at (steps r h) f.0 f.1), nx.here x)

      -- the longest run of 0x24 descriptors straight after it
      pub run : Run s (after_at s o) (next_of Outside s (after_at s o))
      run =
          let n = next-is s Outside (after_at s o) (after_on s o h).1 in
          record {
            order = n.least;
            within = n.within;
            each = λ p b l x. (outside s p).0 (said-no (is_sought Outside s p) (not-before Outside p b l x));
            longest = λ x. ((stands-there Outside x).0, λ c. true≢false (sym (n.here x) ∙ (outside s (next_of Outside s (after_at s o))).1 c));
          }
