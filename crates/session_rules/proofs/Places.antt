-- The numbers of a ledger: where each account's stand, and that one entry more in an account changes its two numbers and no other.
use Prim.Native.Nat.{ℕ, zero, suc, ◌+◌, ◌≤◌, ◌<◌}
use mathlib.Core.Path.{◌≡◌, refl, sym, ◌∙◌, ap}
use mathlib.Core.Bool.{Bool, true, false, cond}
use mathlib.Core.List.{List, [], ◌∷◌, map}
use native.Mathlib.Nat.{add-zero, zero-add, add_assoc}
use native.Mathlib.Omega.{arith}
use lib.ListN.{length, get_or, set, length-set}
use lib.Seq.{get_or-set_same, get_or-set_other}
use lib.Dec.{eqb}
use borrow.Author.Tests.{eq-eqb, ne_eqb, eqb-true, eqb-false}
use Rattle.session_rules.specs.declared.Phase.{Phase}
use Rattle.session_rules.specs.Track.{under_count, under_bytes}
use Rattle.session_rules.specs.declared.Account.{Account}
use Rattle.session_rules.specs.declared.Ledger.{Ledger}
use Rattle.session_rules.specs.Accounts.{accounts, account_count, place_of, count_at, bytes_at, lost_at, number_count, under_at, account_for}
use Rattle.session_rules.specs.Ledger.{plus_of, entered_of, shown_of}
use Rattle.session_rules.specs.declared.Reason.{Reason}
use Rattle.session_rules.specs.declared.Reason.TheVariants.{Gap, Error, Clock, Mixed, Long, Cut, Empty}

-- ---- an account's place is its place in the list of accounts
abbrev counting : ℕ → ℕ → List ℕ
counting i zero = []
counting i (suc n) = i ∷ counting (suc i) n

pub in_order : map place_of accounts ≡ counting 0 account_count
in_order = refl

pub place-lt : (a : Account) → place_of a < account_count
place-lt Account.Delivered = omega arith
place-lt Account.Gap = omega arith
place-lt Account.Error = omega arith
place-lt Account.Clock = omega arith
place-lt Account.Long = omega arith
place-lt Account.Cut = omega arith
place-lt Account.Empty = omega arith
place-lt Account.Still = omega arith
place-lt Account.Mixed = omega arith
place-lt Account.UnderWay = omega arith
place-lt Account.Stray = omega arith
place-lt Account.Unreadable = omega arith
place-lt Account.Headers = omega arith

-- ---- a number, and how many there are
abbrev pub at : ℕ → Ledger → ℕ
at p l = get_or l.numbers p 0

abbrev pub Sized : Ledger → Type 0
Sized l = length l.numbers ≡ number_count

-- ---- n more at a place
pub plus-sized : (l : Ledger) (i n : ℕ) → Sized l → Sized (plus_of l i n)
unfolding plus_of
plus-sized l i n e = simp length-set e

pub plus-at : (l : Ledger) (i n p : ℕ) → Sized l → i < number_count → at p (plus_of l i n) ≡ at p l + cond (eqb i p) n 0
unfolding plus_of
plus-at l i n p e h = go (eqb i p) refl
  where
    go : (b : Bool) → eqb i p ≡ b → get_or (set l.numbers i (get_or l.numbers i 0 + n)) p 0 ≡ get_or l.numbers p 0 + cond b n 0
    go true q = rw (← eqb-true i p q) (get_or-set_same l.numbers i (get_or l.numbers i 0 + n) 0 (omega arith))
    go false q = get_or-set_other l.numbers i p (get_or l.numbers i 0 + n) 0 (λ z. eqb-false i p q (sym z)) ∙ sym (add-zero _)

pub plus-last : (l : Ledger) (i n : ℕ) → (plus_of l i n).last ≡ l.last
unfolding plus_of
plus-last l i n = refl

-- ---- one entry more of n bytes in the account with the place k: what the number at p gains
abbrev pub entry_gain : ℕ → ℕ → ℕ → ℕ
entry_gain k n p = cond (eqb (count_at k) p) 1 0 + cond (eqb (bytes_at k) p) n 0

module _ (l : Ledger) (a : Account) (n : ℕ) where
  pub entered-sized : Sized l → Sized (entered_of l a n)
  entered-sized e = plus-sized (plus_of l (count_at (place_of a)) 1) (bytes_at (place_of a)) n (plus-sized l (count_at (place_of a)) 1 e)

  pub entered_at : (p : ℕ) → Sized l → at p (entered_of l a n) ≡ at p l + entry_gain (place_of a) n p
  entered_at p e =
      let k = place-lt a in
      plus-at (plus_of l (count_at (place_of a)) 1) (bytes_at (place_of a)) n p (plus-sized l (count_at (place_of a)) 1 e) (omega arith)
      ∙ ap (◌+ cond (eqb (bytes_at (place_of a)) p) n 0) (plus-at l (count_at (place_of a)) 1 p e (omega arith))
      ∙ add_assoc _ _ _

  pub entered-last : (entered_of l a n).last ≡ l.last
  entered-last = plus-last (plus_of l (count_at (place_of a)) 1) (bytes_at (place_of a)) n ∙ plus-last l (count_at (place_of a)) 1

-- the account's own count and bytes, and nothing at any other account or count
double : (a k : ℕ) → eqb (count_at a) (count_at k) ≡ eqb a k
double a k = go (eqb a k) refl
  where
    go : (b : Bool) → eqb a k ≡ b → eqb (count_at a) (count_at k) ≡ b
    go true q = eq-eqb (count_at a) (count_at k) (ap (λ (x : ℕ). count_at x) (eqb-true a k q))
    go false q = ne_eqb (count_at a) (count_at k) (λ z. eqb-false a k q (omega arith))

double-one : (a k : ℕ) → eqb (bytes_at a) (bytes_at k) ≡ eqb a k
double-one a k = go (eqb a k) refl
  where
    go : (b : Bool) → eqb a k ≡ b → eqb (bytes_at a) (bytes_at k) ≡ b
    go true q = eq-eqb (bytes_at a) (bytes_at k) (ap (λ (x : ℕ). bytes_at x) (eqb-true a k q))
    go false q = ne_eqb (bytes_at a) (bytes_at k) (λ z. eqb-false a k q (omega arith))

pub count-gains : (a n k : ℕ) → entry_gain a n (count_at k) ≡ cond (eqb a k) 1 0
count-gains a n k = rw (double a k, ne_eqb (bytes_at a) (count_at k) (λ z. omega arith)) (add-zero _)

pub bytes-gains : (a n k : ℕ) → entry_gain a n (bytes_at k) ≡ cond (eqb a k) n 0
bytes-gains a n k = rw (double-one a k, ne_eqb (count_at a) (bytes_at k) (λ z. omega arith)) (zero-add _)

pub others_keep : (a n p : ℕ) → a < account_count → lost_at ≤ p → entry_gain a n p ≡ 0
others_keep a n p h k = rw (ne_eqb (count_at a) p (λ z. omega arith), ne_eqb (bytes_at a) p (λ z. omega arith))

-- ---- the frame under way in its account
module _ (l : Ledger) (w : Phase) where
  pub shown-other : (p : ℕ) → (p ≡ count_at under_at → ⊥) → (p ≡ bytes_at under_at → ⊥) → at p (shown_of l w) ≡ at p l
  unfolding shown_of
  shown-other p a b =
      get_or-set_other (set l.numbers (count_at under_at) (under_count w)) (bytes_at under_at) p (under_bytes w) 0 b
      ∙ get_or-set_other l.numbers (count_at under_at) p (under_count w) 0 a

  -- an account other than it, and the counts that are no accounts
  pub shown-account : (k : ℕ) → (k ≡ under_at → ⊥) → (at (count_at k) (shown_of l w) ≡ at (count_at k) l) × (at (bytes_at k) (shown_of l w) ≡ at (bytes_at k) l)
  shown-account k h = (
    shown-other (count_at k) (λ e. h (omega arith)) (λ e. omega arith),
    shown-other (bytes_at k) (λ e. omega arith) (λ e. h (omega arith)),
  )

  pub shown-single : (p : ℕ) → lost_at ≤ p → at p (shown_of l w) ≡ at p l
  shown-single p h = shown-other p (λ e. omega arith) (λ e. omega arith)

  pub shown-sized : Sized l → Sized (shown_of l w)
  unfolding shown_of
  shown-sized e = simp length-set e

  pub shown-count : Sized l → at (count_at under_at) (shown_of l w) ≡ under_count w
  unfolding shown_of
  shown-count e =
      get_or-set_other (set l.numbers (count_at under_at) (under_count w)) (bytes_at under_at) (count_at under_at) (under_bytes w) 0 (λ z. omega arith)
      ∙ get_or-set_same l.numbers (count_at under_at) (under_count w) 0 (omega arith)

  pub shown-bytes : Sized l → at (bytes_at under_at) (shown_of l w) ≡ under_bytes w
  unfolding shown_of
  shown-bytes e = get_or-set_same (set l.numbers (count_at under_at) (under_count w)) (bytes_at under_at) (under_bytes w) 0 (simp length-set (omega arith))

-- a frame that was not delivered is not the one under way
pub not-under-way : (why : Reason) → place_of (account_for why) ≡ under_at → ⊥
not-under-way Gap e = omega arith
not-under-way Error e = omega arith
not-under-way Clock e = omega arith
not-under-way Mixed e = omega arith
not-under-way Long e = omega arith
not-under-way Cut e = omega arith
not-under-way Empty e = omega arith
