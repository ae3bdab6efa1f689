-- Rule 50 of a record in two parts: the rest, with the frame under way, and the lent numbers.
use Rattle.std.specs.Prelude.{None}
use Rattle.session_rules.specs.Options.{Stamp}
use Prim.Native.Nat.{ℕ, ◌≤◌, ◌<◌}
use mathlib.Core.Path.{◌≡◌, refl, sym, ◌∙◌}
use mathlib.Core.List.{List}
use mathlib.Core.Bool.{Bool, true, false, not, ◌||◌, ◌&&◌}
use native.Mathlib.Omega.{arith}
use native.Mathlib.Decide.{ℕ_discrete}
use lib.ListN.{length, get_or}
use lib.Dec.{eqb}
use borrow.Author.Tests.{eq-eqb, ne_eqb}
use Rattle.rules.specs.Numbered.{any_below}
use Rattle.rules.proofs.Rows.{or-first, or-second, any_none, none_any}
use Rattle.session_rules.specs.declared.Phase.{Phase}
use Rattle.session_rules.specs.declared.Ledger.{Ledger}
use Rattle.session_rules.specs.Ledger.{shown_of}
use Rattle.session_rules.specs.Accounts.{account_count, number_count, under_at, lost_at, idle_at, ticks_at, backward_at, untimed_at}
use Rattle.session_rules.proofs.Places.{shown-account, shown-single, shown-count, shown-bytes}
use Rattle.sizes.specs.declared.Opening.{Opening}
use Rattle.session_rules.specs.Rule50.{fill_broken, account_broken, accounts_broken, counts_broken, rule50}
use Rattle.rule_50.specs.Inner.{under_broken, posted_account, posted_broken, rest_broken}
use Rattle.ledger.specs.Inner.{ledger_with}
use Rattle.sizes.specs.Sizes.{sizes_broken}

-- ---- tests
same_test : (a b : Bool) → (a ≡ false → b ≡ false) → (b ≡ false → a ≡ false) → a ≡ b
same_test false b f g = sym (f refl)
same_test true true f g = refl
same_test true false f g = g refl

neither : (a b : Bool) → a ≡ false → b ≡ false → (a || b) ≡ false
neither a b p q = rw (p, q)

and_none : (a b : Bool) → b ≡ false → (a && b) ≡ false
and_none true b e = e
and_none false b e = refl

moved : (a b c d e : Bool) → (a || (b || ((c || d) || e))) ≡ ((a || (b || c)) || (d || e))
moved true b c d e = refl
moved false true c d e = refl
moved false false true d e = refl
moved false false false d e = refl

-- ---- the accounts, and the counts
module _ (l : List ℕ) (last : Stamp) (p : Phase) (n : ℕ) (places : length l ≡ number_count) where
  abbrev shown : Ledger
  shown = shown_of (ledger_with l last) p

  as-posted : (k : ℕ) → (k ≡ under_at → ⊥) → account_broken shown n k ≡ account_broken (ledger_with l None) n k
  as-posted k h = let q = shown-account (ledger_with l last) p k h in rw (q.0, q.1)

  under-way : account_broken shown n under_at ≡ under_broken p n
  under-way = rw (shown-count (ledger_with l last) p places, shown-bytes (ledger_with l last) p places)

  accounts-parts : accounts_broken shown n ≡ (under_broken p n || any_below account_count (posted_account l n))
  unfolding accounts_broken
  accounts-parts = same_test (any_below account_count (account_broken shown n)) (under_broken p n || any_below account_count (posted_account l n)) there back
    where
      there : any_below account_count (account_broken shown n) ≡ false → (under_broken p n || any_below account_count (posted_account l n)) ≡ false
      there h = neither (under_broken p n) (any_below account_count (posted_account l n)) (sym under-way ∙ none_any account_count (account_broken shown n) h under_at (omega arith)) (any_none account_count (posted_account l n) each)
        where
          each : (k : ℕ) → k < account_count → posted_account l n k ≡ false
          each k q = go (ℕ_discrete k under_at)
            where
              go : Dec (k ≡ under_at) → posted_account l n k ≡ false
              go (yes e) = rw (eq-eqb k under_at e)
              go (no e) = and_none (not (eqb k under_at)) (account_broken (ledger_with l None) n k) (sym (as-posted k e) ∙ none_any account_count (account_broken shown n) h k q)

      back : (under_broken p n || any_below account_count (posted_account l n)) ≡ false → any_below account_count (account_broken shown n) ≡ false
      back h = any_none account_count (account_broken shown n) each
        where
          each : (k : ℕ) → k < account_count → account_broken shown n k ≡ false
          each k q = go (ℕ_discrete k under_at)
            where
              go : Dec (k ≡ under_at) → account_broken shown n k ≡ false
              go (yes e) = rw e (under-way ∙ or-first (under_broken p n) (any_below account_count (posted_account l n)) h)
              go (no e) =
                  as-posted k e
                  ∙ (let z : posted_account l n k ≡ false = none_any account_count (posted_account l n) (or-second (under_broken p n) (any_below account_count (posted_account l n)) h) k q in rw (ne_eqb k under_at e) at z)

  counts-parts : counts_broken shown n ≡ counts_broken (ledger_with l None) n
  unfolding counts_broken
  counts-parts =
      rw (other ticks_at (omega arith), other lost_at (omega arith), other idle_at (omega arith), other backward_at (omega arith), other untimed_at (omega arith))
    where
      other : (i : ℕ) → lost_at ≤ i → get_or shown.numbers i 0 ≡ get_or l i 0
      other i h = shown-single (ledger_with l last) p i h

-- ---- the whole record
pub record-parts : (o : Opening) (p : Phase) (l : List ℕ) (last : Stamp) (n : ℕ) → length l ≡ number_count →
    rule50 o p (shown_of (ledger_with l last) p) n ≡ (rest_broken o p n || posted_broken l n)
unfolding rule50 rest_broken posted_broken
record-parts o p l last n places =
    rw (accounts-parts l last p n places, counts-parts l last p n places)
    (moved (sizes_broken o) (fill_broken p o.frame) (under_broken p n) (any_below account_count (posted_account l n)) (counts_broken (ledger_with l None) n))
