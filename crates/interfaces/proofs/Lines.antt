-- The line of descriptors, one step at a time, and a search in it.
use Prim.Native.Nat.{ℕ, zero, suc, ◌+◌, ◌≤◌, ◌<◌}
use mathlib.Core.Path.{◌≡◌, refl, sym, ap, ◌∙◌}
use mathlib.Core.List.{List, [], ◌∷◌}
use mathlib.Core.Bool.{Bool, true, false}
use mathlib.Core.Logic.{⊎_elim}
use lib.ListN.{length}
use borrow.Author.Tests.{lt-ltb, le-ltb}
use native.Mathlib.Omega.{arith}
use Rattle.rules.specs.IfElse.{if_else}
use Rattle.rules.proofs.Firsts.{lt-or-ge}
use Rattle.blocks.specs.Blocks.{len_at}
use Rattle.configuration_rules.specs.Descriptors.{broken_at, after_at, is_sought}
use Rattle.configuration_rules.specs.declared.Sought.{Sought}
use Rattle.configuration_rules.proofs.Deciding.{kept}
use Rattle.interfaces.specs.Inner.{line_from, line, found, next_of}
use Rattle.interfaces.specs.Line.{those}

module _ (s : List ℕ) where
  -- ---- one step
  pub after-broken : (o : ℕ) → broken_at s o ≡ true → after_at s o ≡ length s
  unfolding after_at if_else
  after-broken o e = rw e

  pub after-whole : (o : ℕ) → broken_at s o ≡ false → after_at s o ≡ o + len_at s o
  unfolding after_at if_else
  after-whole o e = rw e

  pub after_on : (o : ℕ) → o < length s → (o < after_at s o) × (after_at s o ≤ length s)
  after_on o h = go (broken_at s o) refl
    where
      go : (b : Bool) → broken_at s o ≡ b → (o < after_at s o) × (after_at s o ≤ length s)
      go true e = rw (after-broken o e) (h, omega arith)
      go false e = let k = (kept s o).0 e in rw (after-whole o e) (omega (arith, k.two), k.inside)

  line-none : (n o : ℕ) → length s ≤ o → line_from n s o ≡ []
  unfolding line_from if_else
  line-none zero o h = refl
  line-none (suc n) o h = rw (le-ltb o (length s) h)

  line_on : (n o : ℕ) → o < length s → line_from (suc n) s o ≡ o ∷ line_from n s (after_at s o)
  unfolding line_from if_else
  line_on n o h = rw (lt-ltb o (length s) h)

  -- enough is enough
  pub line_same : (m n o : ℕ) → length s ≤ o + m → length s ≤ o + n → line_from m s o ≡ line_from n s o
  line_same zero n o a b = line-none zero o (omega arith) ∙ sym (line-none n o (omega arith))
  line_same (suc m) zero o a b = line-none (suc m) o (omega arith) ∙ sym (line-none zero o (omega arith))
  line_same (suc m) (suc n) o a b =
      ⊎_elim (λ h. let p = after_on o h in on h (line_same m n (after_at s o) (omega (arith, p.0)) (omega (arith, p.0))))
      (λ h. line-none (suc m) o h ∙ sym (line-none (suc n) o h)) (lt-or-ge o (length s))
    where
      on : o < length s → line_from m s (after_at s o) ≡ line_from n s (after_at s o) → line_from (suc m) s o ≡ line_from (suc n) s o
      on h e = rw (line_on m o h, line_on n o h, e)

  pub line-end : (o : ℕ) → length s ≤ o → line s o ≡ []
  line-end o h = line-none (length s) o h

  pub line-more : (o : ℕ) → o < length s → line s o ≡ o ∷ line s (after_at s o)
  line-more o h = go (length s) refl
    where
      go : (n : ℕ) → length s ≡ n → line s o ≡ o ∷ line s (after_at s o)
      go zero e = absurd (omega arith)
      go (suc n) e =
          let p = after_on o h in
          (ap (λ (k : ℕ). line_from k s o) e ∙ line_on n o h) ∙ (rw (line_same n (length s) (after_at s o) (omega (arith, p.0)) (omega arith)))

  -- ---- a search
  module _ (w : Sought) where
    pub found-end : (o : ℕ) → length s ≤ o → found w s o ≡ []
    unfolding found those
    found-end o h = rw (line-end o h)

    pub found_here : (o : ℕ) → o < length s → is_sought w s o ≡ true → found w s o ≡ o ∷ found w s (after_at s o)
    unfolding found those if_else
    found_here o h e = rw (line-more o h, e)

    pub found-skip : (o : ℕ) → o < length s → is_sought w s o ≡ false → found w s o ≡ found w s (after_at s o)
    unfolding found those if_else
    found-skip o h e = rw (line-more o h, e)

    pub next-end : (o : ℕ) → length s ≤ o → next_of w s o ≡ length s
    unfolding next_of
    next-end o h = rw (found-end o h)

    pub next_here : (o : ℕ) → o < length s → is_sought w s o ≡ true → next_of w s o ≡ o
    unfolding next_of
    next_here o h e = rw (found_here o h e)

    pub next-skip : (o : ℕ) → o < length s → is_sought w s o ≡ false → next_of w s o ≡ next_of w s (after_at s o)
    unfolding next_of
    next-skip o h e = rw (found-skip o h e)

    -- what is found from o on starts at r
    pub record Next (o r : ℕ) : Type 0 where
      pub least : o ≤ r
      pub within : r ≤ length s
      pub same : found w s r ≡ found w s o
      pub here : r < length s → is_sought w s r ≡ true

    at-end : (o : ℕ) → o ≤ length s → length s ≤ o → Next o (length s)
    at-end o b h = record { least = b; within = omega arith; same = found-end (length s) (omega arith) ∙ sym (found-end o h); here = λ x. absurd (omega arith) }

    at_once : (o : ℕ) → o < length s → (t : Bool) → is_sought w s o ≡ t → Next (after_at s o) (next_of w s (after_at s o)) → Next o (next_of w s o)
    at_once o h true e r = rw (next_here o h e) (record { least = omega arith; within = omega arith; same = refl; here = λ x. e })
    at_once o h false e r =
        let p = after_on o h in
        rw (next-skip o h e) (record { least = omega (arith, p.0, r.least); within = r.within; same = r.same ∙ sym (found-skip o h e); here = r.here })

    next-from : (n o : ℕ) → length s ≤ o + n → o ≤ length s → Next o (next_of w s o)
    next-from zero o a b = let h : length s ≤ o = omega arith in rw (next-end o h) (at-end o b h)
    next-from (suc n) o a b =
        ⊎_elim
        (λ h. let p = after_on o h in at_once o h (is_sought w s o) refl (next-from n (after_at s o) (omega (arith, p.0)) p.1))
        (λ h. rw (next-end o h) (at-end o b h)) (lt-or-ge o (length s))

    pub next-is : (o : ℕ) → o ≤ length s → Next o (next_of w s o)
    next-is o h = next-from (length s) o (omega arith) h
