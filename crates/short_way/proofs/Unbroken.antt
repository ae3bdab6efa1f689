-- One transfer more, with numbers that grew by no more than one transfer of the short way makes them grow: what is posted stays unbroken. So who takes transfer after transfer
-- asks rule 50 of the posted numbers once.
use Rattle.std.specs.Prelude.{None}
use Prim.Native.Nat.{ℕ, ◌+◌, ◌*◌, ◌≤◌, ◌^◌}
use mathlib.Core.Path.{◌≡◌, refl}
use mathlib.Core.Bool.{Bool, true, false, not, ◌||◌, ◌&&◌, true≢false}
use mathlib.Core.List.{List}
use native.Mathlib.Omega.{arith}
use lib.Dec.{ltb, eqb}
use lib.ListN.{get_or}
use lib.Seq.{get_or-set_other}
use borrow.Author.Tests.{ltb-false, le-ltb}
use Rattle.rules.specs.Numbered.{any_below}
use Rattle.rules.proofs.Rows.{any_none, none_any}
use Rattle.session_rules.specs.declared.Account.{Account}
use Rattle.session_rules.specs.Accounts.{account_count, under_at, place_of, count_at, bytes_at, lost_at, idle_at, ticks_at, backward_at, untimed_at}
use Rattle.session_rules.specs.Rule50.{transfer_most, account_broken, counts_broken}
use Rattle.session_rules.proofs.Places.{place-lt}
use Rattle.ledger.specs.Inner.{ledger_with, plus_at, entered_in}
use Rattle.ledger.proofs.Rooms.{plus-most}
use Rattle.rule_50.specs.Inner.{posted_account, posted_broken}

-- ---- tests
both : (a b c d : Bool) → (a ≡ false → c ≡ false) → (b ≡ false → d ≡ false) → (a || b) ≡ false → (c || d) ≡ false
both false b c d f g e = rw (f refl) (g e)
both true b c d f g e = absurd (true≢false e)

where-asked : (a b c : Bool) → (b ≡ false → c ≡ false) → (a && b) ≡ false → (a && c) ≡ false
where-asked true b c f e = f e
where-asked false b c f e = refl

one-over : (n x y : ℕ) → y ≤ x + 1 → ltb n x ≡ false → ltb (n + 1) y ≡ false
one-over n x y h e = le-ltb (n + 1) y (omega (arith, ltb-false n x e))

bytes-over : (n x y : ℕ) → y ≤ x + transfer_most → ltb (transfer_most * n) x ≡ false → ltb (transfer_most * (n + 1)) y ≡ false
bytes-over n x y h e = le-ltb (transfer_most * (n + 1)) y (omega (arith, ltb-false (transfer_most * n) x e))

ticks-over : (n x y : ℕ) → y ≤ x + 1 → ltb (2 ^ 31 * n) x ≡ false → ltb (2 ^ 31 * (n + 1)) y ≡ false
ticks-over n x y h e = le-ltb (2 ^ 31 * (n + 1)) y (omega (arith, ltb-false (2 ^ 31 * n) x e))

-- ---- what one transfer may add: one to every number, and 65,536 to the bytes of an account
pub record Grew (l m : List ℕ) : Type 0 where
  pub counts : (k : ℕ) → get_or m (count_at k) 0 ≤ get_or l (count_at k) 0 + 1
  pub bytes : (k : ℕ) → get_or m (bytes_at k) 0 ≤ get_or l (bytes_at k) 0 + transfer_most
  pub others : (i : ℕ) → lost_at ≤ i → get_or m i 0 ≤ get_or l i 0 + 1

module _ (l m : List ℕ) (n : ℕ) (g : Grew l m) where
  account : (k : ℕ) → posted_account l n k ≡ false → posted_account m (n + 1) k ≡ false
  account k e =
      where-asked (not (eqb k under_at)) (account_broken (ledger_with l None) n k) (account_broken (ledger_with m None) (n + 1) k)
      (both _ _ _ _ (one-over n _ _ (g.counts k)) (bytes-over n _ _ (g.bytes k))) e

  accounts : any_below account_count (posted_account l n) ≡ false → any_below account_count (posted_account m (n + 1)) ≡ false
  accounts e = any_none account_count (posted_account m (n + 1)) (λ k q. account k (none_any account_count (posted_account l n) e k q))

  other : (i : ℕ) → lost_at ≤ i → ltb n (get_or l i 0) ≡ false → ltb (n + 1) (get_or m i 0) ≡ false
  other i h = one-over n (get_or l i 0) (get_or m i 0) (g.others i h)

  counts : counts_broken (ledger_with l None) n ≡ false → counts_broken (ledger_with m None) (n + 1) ≡ false
  unfolding counts_broken
  counts e =
      both _ _ _ _ (ticks-over n _ _ (g.others ticks_at (omega arith)))
      (both _ _ _ _ (other lost_at (omega arith))
      (both _ _ _ _ (other idle_at (omega arith)) (both _ _ _ _ (other backward_at (omega arith)) (other untimed_at (omega arith))))) e

  -- UNBROKEN: what rule 50 lets through, it lets through after one transfer more
  pub stays-unbroken : posted_broken l n ≡ false → posted_broken m (n + 1) ≡ false
  unfolding posted_broken
  stays-unbroken e = both _ _ _ _ accounts counts e

-- ---- what the calls enter
-- one more at a place: an idle transfer, a lost one
pub plus-grew : (l : List ℕ) (i : ℕ) → Grew l (plus_at l i 1)
plus-grew l i =
    record {
      counts = λ k. plus-most l i 1 (count_at k) _ (omega arith);
      bytes = λ k. omega (arith, plus-most l i 1 (bytes_at k) (get_or l (bytes_at k) 0) (omega arith));
      others = λ j h. plus-most l i 1 j _ (omega arith);
    }

-- one more in an account, of up to 65,536 bytes: the header of a transfer that is kept
module _ (l : List ℕ) (a : Account) (len : ℕ) where
  abbrev once : List ℕ
  once = plus_at l (count_at (place_of a)) 1

  beside : (j : ℕ) → (j ≡ bytes_at (place_of a) → ⊥) → get_or (entered_in l a len) j 0 ≡ get_or once j 0
  beside j q = get_or-set_other once (bytes_at (place_of a)) j (get_or once (bytes_at (place_of a)) 0 + len) 0 q

  apart : (j : ℕ) → (j ≡ count_at (place_of a) → ⊥) → get_or once j 0 ≡ get_or l j 0
  apart j q = get_or-set_other l (count_at (place_of a)) j (get_or l (count_at (place_of a)) 0 + 1) 0 q

  pub entered-grew : len ≤ transfer_most → Grew l (entered_in l a len)
  entered-grew h =
      record {
        counts = λ k. rw (beside (count_at k) (λ z. omega arith)) (plus-most l (count_at (place_of a)) 1 (count_at k) (get_or l (count_at k) 0) (omega arith));
        bytes = λ k. let q = apart (bytes_at k) (λ z. omega arith) in
            let g : get_or once (bytes_at k) 0 ≤ get_or l (bytes_at k) 0 = omega (arith, q) in
            omega (arith, h, plus-most once (bytes_at (place_of a)) len (bytes_at k) (get_or l (bytes_at k) 0) g);
        others = λ j q. omega (arith, beside j (λ z. omega (arith, place-lt a, q)), apart j (λ z. omega (arith, place-lt a, q)));
      }

pub entered-unbroken : (l : List ℕ) (a : Account) (len n : ℕ) → len ≤ transfer_most → posted_broken l n ≡ false →
    posted_broken (entered_in l a len) (n + 1) ≡ false
entered-unbroken l a len n h = stays-unbroken l (entered_in l a len) n (entered-grew l a len h)

pub plus-unbroken : (l : List ℕ) (i n : ℕ) → posted_broken l n ≡ false → posted_broken (plus_at l i 1) (n + 1) ≡ false
plus-unbroken l i n = stays-unbroken l (plus_at l i 1) n (plus-grew l i)
