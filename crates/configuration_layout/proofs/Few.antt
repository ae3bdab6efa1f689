-- 75: the first descriptor that is one too many, in words; and what holds where none is.
use Prim.Native.Nat.{ℕ, zero, suc, ◌+◌, ◌≤◌, ◌<◌}
use mathlib.Core.Path.{◌≡◌, refl, sym, ap}
use mathlib.Core.List.{List, [], ◌∷◌}
use mathlib.Core.Bool.{Bool, true, false, true≢false}
use mathlib.Core.Logic.{inl, inr, ⊎_elim, ◌↔◌}
use lib.ListN.{length, take, get_or, get_or-eq_default}
use lib.Seq.{take_at, take-suc, take-length}
use lib.Dec.{leb}
use borrow.Author.Tests.{le-leb, leb-true}
use native.Mathlib.Omega.{arith}
use native.Mathlib.Nat.{eq-or-lt_of_le}
use Rattle.rules.specs.IfElse.{if_else}
use Rattle.rules.specs.Walk.{Reached, first, Clean}
use Rattle.rules.proofs.Firsts.{lt-or-ge}
use Rattle.rules.proofs.Places.{first-place}
use Rattle.rules.proofs.Rows.{or-either}
use Rattle.configuration_rules.specs.Descriptors.{streaming_subclass, number_at, is_sought}
use Rattle.configuration_rules.specs.declared.Sought.TheVariants.{Listed, Setting}
use Rattle.configuration_rules.specs.Words.{Video, StreamingFirst}
use Rattle.configuration_rules.proofs.Deciding.{listed, setting}
use Rattle.interfaces.specs.Line.{course, those}
use Rattle.interfaces.specs.Inner.{line, found, one_too_many, too_many_at, first_too_many, too_many}
use Rattle.interfaces.specs.Limits.{interfaces_most, settings_most, listed_among, settings_among}
use Rattle.interfaces.proofs.Counting.{those-more}
use Rattle.configuration_layout.specs.Words.{OneTooMany, FirstTooMany, NoneTooMany}
use Rattle.configuration_layout.proofs.Walked.{rises-order, line-rises, reached-line, reached-at, place_in}

-- the same element, whatever is told past the end
get_d_any : (l : List ℕ) (i d e : ℕ) → i < length l → get_or l i d ≡ get_or l i e
get_d_any [] i d e h = absurd (omega arith)
get_d_any (x ∷ l) zero d e h = refl
get_d_any (x ∷ l) (suc i) d e h = get_d_any l i d e (omega arith)

-- a test and a limit
module _ (t : Bool) (P : Type 0) (d : (t ≡ true) ↔ P) (m n : ℕ) where
  full : (if_else t (leb m n) false ≡ true) ↔ (P × (m ≤ n))
  unfolding if_else
  full = (to t refl, λ p. rw (d.1 p.0) (le-leb m n p.1))
    where
      to : (b : Bool) → t ≡ b → if_else b (leb m n) false ≡ true → P × (m ≤ n)
      to true e h = (d.0 e, leb-true m n h)
      to false e h = absurd (true≢false (sym h))

-- a list each of whose chosen elements stands behind fewer than m of them has at most m
few-up-to : (f : ℕ → Bool) (m : ℕ) (l : List ℕ) → ((i : ℕ) → i < length l → f (get_or l i 0) ≡ true → length (those f (take i l)) < m) → (k : ℕ) → k ≤ length l → length (those f (take k l)) ≤ m
unfolding those if_else
few-up-to f m l h zero b = omega arith
few-up-to f m l h (suc k) b = rw (take-suc l k 0 b, those-more f (take k l) (get_or l k 0)) (go (f (get_or l k 0)) refl (few-up-to f m l h k (omega arith)))
  where
    go : (t : Bool) → f (get_or l k 0) ≡ t → length (those f (take k l)) ≤ m → length (those f (take k l)) + if_else t 1 0 ≤ m
    go true e r = omega (arith, h k b e)
    go false e r = omega arith

all-few : (f : ℕ → Bool) (m : ℕ) (l : List ℕ) → ((i : ℕ) → i < length l → f (get_or l i 0) ≡ true → length (those f (take i l)) < m) → length (those f l) ≤ m
all-few f m l h = rw take-length at (few-up-to f m l h (length l) (omega arith))

module _ (s : List ℕ) where
  streaming : (o : ℕ) → (is_sought (Setting (number_at s o)) s o ≡ true) ↔ Video s streaming_subclass o
  streaming o = let d = setting s o (number_at s o) in (λ h. (d.0 h).video, λ v. d.1 (record { video = v; number = refl }))

  one-decides : (o : ℕ) (l : List ℕ) → (one_too_many s o (listed_among s l) (settings_among s (number_at s o) l) ≡ true) ↔ OneTooMany s l o
  unfolding one_too_many
  one-decides o l =
      let a = full (is_sought Listed s o) (StreamingFirst s o) (listed s o) interfaces_most (listed_among s l) in
      let b = full (is_sought (Setting (number_at s o)) s o) (Video s streaming_subclass o) (streaming o) settings_most (settings_among s (number_at s o) l) in
      let c = or-either (if_else (is_sought Listed s o) (leb interfaces_most (listed_among s l)) false) (if_else (is_sought (Setting (number_at s o)) s o) (leb settings_most (settings_among s (number_at s o) l)) false) in
      (λ h. ⊎_elim (λ x. inl (a.0 x)) (λ x. inr (b.0 x)) (c.0 h), λ h. c.1 (⊎_elim (λ x. inl (a.1 x)) (λ x. inr (b.1 x)) h))

  at-decides : (i : ℕ) → (too_many_at s (line s 0) i ≡ true) ↔ OneTooMany s (take i (line s 0)) (get_or (line s 0) i 0)
  unfolding too_many_at
  at-decides i = one-decides (get_or (line s 0) i 0) (take i (line s 0))

  module _ (clean : Clean (course s)) where
    -- what is told of a place that is reached is told of its place in the line
    told : {l : List ℕ} {o : ℕ} → Reached (course s) l o → o < length s → OneTooMany s l o → too_many_at s (line s 0) (length l) ≡ true
    told {l} {o} r h w =
        let t : take (length l) (line s 0) ≡ l = rw (reached-line s clean r) (take_at l (line s o) (length l) refl) in
        (at-decides (length l)).1 (rw (t, (place_in s clean r h).1) w)

    module _ (b : first_too_many s < length (line s 0)) where
      there-is : too_many s ≡ get_or (line s 0) (first_too_many s) 0
      unfolding too_many
      there-is = get_d_any (line s 0) (first_too_many s) (length s) 0 b

      pub first-there : FirstTooMany s (too_many s)
      first-there =
          let f = first-place (too_many_at s (line s 0)) (length (line s 0)) in
          let r = reached-at s clean first (first_too_many s) b in
          rw there-is
          (record {
            before = take (first_too_many s) (line s 0);
            there = r.0;
            inside = r.1;
            broken = (at-decides (first_too_many s)).0 (f.here b);
            earliest = λ l p q x w.
                let k = place_in s clean q (omega (arith, r.1)) in
                ⊎_elim (λ y. f.before (length l) y (told q (omega (arith, r.1)) w))
                (λ y. ⊎_elim (λ z. omega (arith, k.1, ap (λ (n : ℕ). get_or (line s 0) n 0) z)) (λ z. omega (arith, k.1, rises-order 0 (line s 0) (line-rises s (length s) 0 (omega arith)) (first_too_many s) (length l) z k.0)) (eq-or-lt_of_le {n = first_too_many s} {m = length l} y))
                (lt-or-ge (length l) (first_too_many s));
          })

    module _ (b : length (line s 0) ≤ first_too_many s) where
      pub none-there : NoneTooMany s
      none-there l o r h w =
          let f = first-place (too_many_at s (line s 0)) (length (line s 0)) in
          f.before (length l) (omega (arith, (place_in s clean r h).0)) (told r h w)

      pub end-there : too_many s ≡ length s
      unfolding too_many
      end-there = get_or-eq_default (line s 0) (length s) b

    -- where none is one too many, there are few
    pub few : NoneTooMany s → (length (found Listed s 0) ≤ interfaces_most) × ((n : ℕ) → length (found (Setting n) s 0) ≤ settings_most)
    unfolding found
    few none = (
      all-few (is_sought Listed s) interfaces_most (line s 0) (λ i b h. not_more i b interfaces_most (listed_among s (take i (line s 0))) (λ w. inl ((listed s (get_or (line s 0) i 0)).0 h, w))),
      λ n. all-few (is_sought (Setting n) s) settings_most (line s 0) (λ i b h. let q = (setting s (get_or (line s 0) i 0) n).0 h in
          not_more i b settings_most (settings_among s n (take i (line s 0))) (λ w. inr (q.video, rw q.number w))),
    )
      where
        not_more : (i : ℕ) → i < length (line s 0) → (m n : ℕ) → (m ≤ n → OneTooMany s (take i (line s 0)) (get_or (line s 0) i 0)) → n < m
        not_more i b m n f =
            let r = reached-at s clean first i b in
            ⊎_elim (λ h. h) (λ h. absurd (none (take i (line s 0)) (get_or (line s 0) i 0) r.0 r.1 (f h))) (lt-or-ge n m)

  -- one at the most is the first
  pub one-first : (a b : ℕ) → FirstTooMany s a → FirstTooMany s b → a ≡ b
  one-first a b f g =
      ⊎_elim (λ h. absurd (g.earliest f.before a f.there h f.broken))
      (λ h. ⊎_elim (λ k. absurd (f.earliest g.before b g.there k g.broken)) (λ k. omega arith) (lt-or-ge b a)) (lt-or-ge a b)
