-- EXACTLY WHEN each call is refused, by which number, and what a refused call leaves as it was.
use Rattle.std.specs.Prelude.{Err, Ok}
use Rattle.session_rules.specs.Options.{Ended}
use Prim.Native.Nat.{ℕ, zero, suc, ◌<◌}
use mathlib.Core.Path.{◌≡◌, refl}
use mathlib.Core.Bool.{Bool, true, false}
use mathlib.Core.List.{List}
use mathlib.Core.Logic.{◌↔◌}
use native.Mathlib.Omega.{arith}
use lib.ListN.{length}
use Rattle.rules.specs.Numbered.{Row, first_row, Given, here, later, NoneOf}
use Rattle.rules.proofs.Rows.{Numbered, given-row, row_first, none_row, row-none}
use Rattle.sizes.specs.declared.Opening.{Opening}
use Rattle.session_rules.specs.declared.Reading.{Reading}
use Rattle.session_rules.specs.declared.Reading.TheVariants.{Idle, Unreadable, Readable}
use Rattle.session_rules.specs.Transfer.{reading_of}
use Rattle.session_rules.specs.declared.Answer.{Answer}
use Rattle.session_rules.specs.declared.Session.{Session}
use Rattle.session_rules.specs.declared.Outcome.{Outcome}
use Rattle.session_rules.specs.Refusals.{opening_rows, close_rows, lost_rows, take_rows}
use Rattle.session_rules.specs.WhenRefused.{Met}
use Rattle.session_rules.specs.Session.{open_by, open_of, read_of, took_by, took_of, handed_of, met_by, met_of, hands_out, take_by, take_of, buffer_by, buffer_of, lost_by, lost_of, close_by, close_of}

-- ---- the rows have numbers, and a number that is given is one of them
opening-numbered : (o : Opening) (room : ℕ) → Numbered (opening_rows o room)
unfolding opening_rows
opening-numbered o room = (omega arith, (omega arith, (omega arith, tt)))

close-numbered : (s : Session) → Numbered (close_rows s)
close-numbered s = (omega arith, (omega arith, tt))

lost-numbered : (s : Session) → Numbered (lost_rows s)
lost-numbered s = (omega arith, (omega arith, (omega arith, tt)))

take-numbered : (s : Session) (room n : ℕ) → Numbered (take_rows s room n)
take-numbered s room n = (omega arith, (omega arith, (omega arith, (omega arith, (omega arith, tt)))))

given-positive : {rows : List Row} {k : ℕ} → Numbered rows → Given rows k → 0 < k
given-positive p (here r rs e) = p.0
given-positive p (later r rs k e g) = given-positive p.1 g

-- a number k that is not 0 is the first row's exactly when it is given
to-given : (rows : List Row) (k : ℕ) → (first_row rows ≡ k) × (0 < k) → Given rows k
to-given rows zero p = absurd (omega arith)
to-given rows (suc k) p = (row_first rows k).0 p.0

from-given : (rows : List Row) (k : ℕ) → Numbered rows → Given rows k → (first_row rows ≡ k) × (0 < k)
from-given rows k p g = (given-row g, given-positive p g)

-- ---- take
pub took-taken : (s : Session) (t : List ℕ) → (a : Answer) × ((took_of s t).outcome ≡ Outcome.Taken a)
unfolding took_of read_of
took-taken s t = go (reading_of s.rest.opening t)
  where
    go : (r : Reading) → (a : Answer) × ((took_by r s t).outcome ≡ Outcome.Taken a)
    go Idle = (_, refl)
    go (Unreadable k) = (_, refl)
    go (Readable h) = (_, refl)

pub met : (s : Session) (t : List ℕ) → Met (met_of s t).outcome
unfolding handed_of
met s t = go (hands_out s t)
  where
    go : (b : Bool) → Met (met_by b s t).outcome
    go true = tt
    go false = let w = took-taken s t in rw w.1 tt

pub not-both : (x : Outcome) (k : ℕ) → Met x → x ≡ Outcome.Refused k → ⊥
not-both x k p q = rw q at p

module _ (s : Session) (t : List ℕ) where
  take-to : (n k : ℕ) → (take_by n s t).outcome ≡ Outcome.Refused k → (n ≡ k) × (0 < k)
  take-to zero k e = absurd (not-both _ k (met s t) e)
  take-to (suc n) k e = let q : suc n ≡ k = cc in (q, omega arith)

  take-from : (n k : ℕ) → (n ≡ k) × (0 < k) → (take_by n s t).outcome ≡ Outcome.Refused k
  take-from zero k p = absurd (omega arith)
  take-from (suc n) k p = rw p.0

  take_open : (n : ℕ) → Met (take_by n s t).outcome → n ≡ 0
  take_open zero p = refl
  take_open (suc n) p = absurd p

  -- 50, 53, 52, 51, 55: k is given exactly when its row says so and no earlier one does
  pub take-refused-exactly : (room k : ℕ) → ((take_of s room t).outcome ≡ Outcome.Refused k) ↔ Given (take_rows s room (length t)) k
  unfolding take_of
  take-refused-exactly room k = (
    λ e. to-given (take_rows s room (length t)) k (take-to (first_row (take_rows s room (length t))) k e),
    λ g. take-from (first_row (take_rows s room (length t))) k (from-given (take_rows s room (length t)) k (take-numbered s room (length t)) g),
  )

  -- not refused exactly when no row is broken
  pub take-met-exactly : (room : ℕ) → Met (take_of s room t).outcome ↔ NoneOf (take_rows s room (length t))
  unfolding take_of
  take-met-exactly room = (
    λ p. row-none (take_rows s room (length t)) (take-numbered s room (length t)) (take_open (first_row (take_rows s room (length t))) p),
    λ n. rw (none_row (take_rows s room (length t)) n) (met s t),
  )

  -- a refused call gives the session back as it was
  pub count-as-it-was : (room k : ℕ) → (take_of s room t).outcome ≡ Outcome.Refused k → (take_of s room t).session ≡ s
  unfolding take_of
  count-as-it-was room k e = go (first_row (take_rows s room (length t))) e
    where
      go : (n : ℕ) → (take_by n s t).outcome ≡ Outcome.Refused k → (take_by n s t).session ≡ s
      go zero e = absurd (not-both _ k (met s t) e)
      go (suc n) e = refl

  -- and no byte of the buffer changes
  pub take-as-it-was : (buffer : List ℕ) (k : ℕ) → (take_of s (length buffer) t).outcome ≡ Outcome.Refused k →
      ((take_of s (length buffer) t).session ≡ s) × (buffer_of s buffer t ≡ buffer)
  unfolding take_of buffer_of
  take-as-it-was buffer k e = (count-as-it-was (length buffer) k e, go (first_row (take_rows s (length buffer) (length t))) e)
    where
      go : (n : ℕ) → (take_by n s t).outcome ≡ Outcome.Refused k → buffer_by n s buffer t ≡ buffer
      go zero e = absurd (not-both _ k (met s t) e)
      go (suc n) e = refl

-- ---- lost
module _ (s : Session) where
  lost-to : (n k : ℕ) → (lost_by n s).report ≡ Err k → (n ≡ k) × (0 < k)
  lost-to zero k e = let z : ◌≡◌ {A = ℕ} 0 1 = cc in absurd (omega arith)
  lost-to (suc n) k e = let q : suc n ≡ k = cc in (q, omega arith)

  lost-from : (n k : ℕ) → (n ≡ k) × (0 < k) → (lost_by n s).report ≡ Err k
  lost-from zero k p = absurd (omega arith)
  lost-from (suc n) k p = rw p.0

  lost-open : (n : ℕ) → (lost_by n s).report ≡ Ok tt → n ≡ 0
  lost-open zero e = refl
  lost-open (suc n) e = let z : ◌≡◌ {A = ℕ} 0 1 = cc in absurd (omega arith)

  -- 50, 53, 52
  pub lost-refused-exactly : (k : ℕ) → ((lost_of s).report ≡ Err k) ↔ Given (lost_rows s) k
  unfolding lost_of
  lost-refused-exactly k = (
    λ e. to-given (lost_rows s) k (lost-to (first_row (lost_rows s)) k e),
    λ g. lost-from (first_row (lost_rows s)) k (from-given (lost_rows s) k (lost-numbered s) g),
  )

  pub lost-noted-exactly : ((lost_of s).report ≡ Ok tt) ↔ NoneOf (lost_rows s)
  unfolding lost_of
  lost-noted-exactly = (λ e. row-none (lost_rows s) (lost-numbered s) (lost-open (first_row (lost_rows s)) e), λ n. rw (none_row (lost_rows s) n))

  pub lost-as-it-was : (k : ℕ) → (lost_of s).report ≡ Err k → (lost_of s).session ≡ s
  unfolding lost_of
  lost-as-it-was k e = go (first_row (lost_rows s)) e
    where
      go : (n : ℕ) → (lost_by n s).report ≡ Err k → (lost_by n s).session ≡ s
      go zero e = let z : ◌≡◌ {A = ℕ} 0 1 = cc in absurd (omega arith)
      go (suc n) e = refl

  -- ---- close
  close-to : (n k : ℕ) → (close_by n s).closing ≡ Err k → (n ≡ k) × (0 < k)
  close-to zero k e = let z : ◌≡◌ {A = ℕ} 0 1 = cc in absurd (omega arith)
  close-to (suc n) k e = let q : suc n ≡ k = cc in (q, omega arith)

  close-from : (n k : ℕ) → (n ≡ k) × (0 < k) → (close_by n s).closing ≡ Err k
  close-from zero k p = absurd (omega arith)
  close-from (suc n) k p = rw p.0

  close_open : (n : ℕ) → (e : Ended) × ((close_by n s).closing ≡ Ok e) → n ≡ 0
  close_open zero p = refl
  close_open (suc n) p = let q = p.1 in let z : ◌≡◌ {A = ℕ} 0 1 = cc in absurd (omega arith)

  -- 50, 53
  pub close-refused-exactly : (k : ℕ) → ((close_of s).closing ≡ Err k) ↔ Given (close_rows s) k
  unfolding close_of
  close-refused-exactly k = (
    λ e. to-given (close_rows s) k (close-to (first_row (close_rows s)) k e),
    λ g. close-from (first_row (close_rows s)) k (from-given (close_rows s) k (close-numbered s) g),
  )

  pub close-closed-exactly : ((e : Ended) × ((close_of s).closing ≡ Ok e)) ↔ NoneOf (close_rows s)
  unfolding close_of
  close-closed-exactly =
      (λ p. row-none (close_rows s) (close-numbered s) (close_open (first_row (close_rows s)) p), λ n. rw (none_row (close_rows s) n) (_, refl))

  pub close-as-it-was : (k : ℕ) → (close_of s).closing ≡ Err k → (close_of s).session ≡ s
  unfolding close_of
  close-as-it-was k e = go (first_row (close_rows s)) e
    where
      go : (n : ℕ) → (close_by n s).closing ≡ Err k → (close_by n s).session ≡ s
      go zero e = let z : ◌≡◌ {A = ℕ} 0 1 = cc in absurd (omega arith)
      go (suc n) e = refl

-- ---- open: 45, 46, 47
module _ (o : Opening) (room : ℕ) where
  open-to : (n k : ℕ) → (open_by n o).start ≡ Err k → (n ≡ k) × (0 < k)
  open-to zero k e = let z : ◌≡◌ {A = ℕ} 0 1 = cc in absurd (omega arith)
  open-to (suc n) k e = let q : suc n ≡ k = cc in (q, omega arith)

  open-from : (n k : ℕ) → (n ≡ k) × (0 < k) → (open_by n o).start ≡ Err k
  open-from zero k p = absurd (omega arith)
  open-from (suc n) k p = rw p.0

  open-open : (n : ℕ) → (open_by n o).start ≡ Ok tt → n ≡ 0
  open-open zero e = refl
  open-open (suc n) e = let z : ◌≡◌ {A = ℕ} 0 1 = cc in absurd (omega arith)

  -- 45, 46, 47: k is given exactly when its row says so and no earlier one does
  pub open-refused-exactly : (k : ℕ) → ((open_of o room).start ≡ Err k) ↔ Given (opening_rows o room) k
  unfolding open_of
  open-refused-exactly k = (
    λ e. to-given (opening_rows o room) k (open-to (first_row (opening_rows o room)) k e),
    λ g. open-from (first_row (opening_rows o room)) k (from-given (opening_rows o room) k (opening-numbered o room) g),
  )

  -- open exactly when no row is broken
  pub open-open-exactly : ((open_of o room).start ≡ Ok tt) ↔ NoneOf (opening_rows o room)
  unfolding open_of
  open-open-exactly = (
    λ e. row-none (opening_rows o room) (opening-numbered o room) (open-open (first_row (opening_rows o room)) e),
    λ n. rw (none_row (opening_rows o room) n),
  )
