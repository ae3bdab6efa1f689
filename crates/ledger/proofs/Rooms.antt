-- How large a ledger's numbers are after each operation, so that no sum wraps.
use Rattle.std.specs.Prelude.{None, Some}
use Rattle.session_rules.specs.Options.{Ended}
use Prim.Native.Nat.{ℕ, ◌+◌, ◌≤◌, ◌<◌, ◌^◌}
use mathlib.Core.Path.{◌≡◌}
use mathlib.Core.List.{List}
use native.Mathlib.Omega.{arith}
use native.Mathlib.Decide.{ℕ_discrete, dec_lt}
use lib.ListN.{length, get_or}
use lib.Seq.{set_out, get_or-set_same, get_or-set_other}
use Rattle.session_rules.specs.declared.Account.{Account}
use Rattle.session_rules.proofs.Places.{place-lt}
use Rattle.session_rules.specs.Accounts.{account_count, number_count, under_at, place_of, account_for, count_at, bytes_at, lost_at}
use Rattle.ledger.specs.Inner.{plus_at, entered_in, ended_in, Room, Spare}

-- ---- n more at a place
pub plus-most : (l : List ℕ) (i n j b : ℕ) → get_or l j 0 ≤ b → get_or (plus_at l i n) j 0 ≤ b + n
plus-most l i n j b h = go (ℕ_discrete j i) (dec_lt i (length l))
  where
    go : Dec (j ≡ i) → Dec (i < length l) → get_or (plus_at l i n) j 0 ≤ b + n
    go (no p) d = rw (get_or-set_other l i j (get_or l i 0 + n) 0 p) (omega arith)
    go (yes e) (yes d) = rw (e, get_or-set_same l i (get_or l i 0 + n) 0 d) (let g : get_or l i 0 ≤ b = rw e at h in omega arith)
    go (yes e) (no d) = rw (set_out l i (get_or l i 0 + n) (omega arith)) (omega arith)

pub room-up : (b m : ℕ) (l : List ℕ) → Room b l → b ≤ m → Room m l
room-up b m l r h =
    record {
      accounts = λ k q p. let s = r.accounts k q p in record { count = omega (arith, s.count); bytes = omega (arith, s.bytes) };
      others = λ i p q. omega (arith, r.others i p q);
    }

pub room-plus : (b m : ℕ) (l : List ℕ) (i n : ℕ) → Room b l → b + n ≤ m → Room m (plus_at l i n)
room-plus b m l i n r h =
    record {
      accounts = λ k q p. let s = r.accounts k q p in
          record { count = omega (arith, plus-most l i n (count_at k) b s.count); bytes = omega (arith, plus-most l i n (bytes_at k) b s.bytes) };
      others = λ j p q. omega (arith, plus-most l i n j b (r.others j p q));
    }

-- ---- each operation
pub room-entered : (b m : ℕ) (l : List ℕ) (a : Account) (n : ℕ) → Room b l → b + 1 + n ≤ m → Room m (entered_in l a n)
room-entered b m l a n r h =
    room-plus (b + 1) m (plus_at l (count_at (place_of a)) 1) (bytes_at (place_of a)) n (room-plus b (b + 1) l (count_at (place_of a)) 1 r (omega arith)) h

pub room-ended : (b m : ℕ) (l : List ℕ) (e : Ended) (gone : ℕ) → Room b l → gone ≤ 2 ^ 50 → b + 2 ^ 51 ≤ m → Room m (ended_in l e gone)
room-ended b m l None gone r n h = room-up b m l r (omega arith)
room-ended b m l (Some why) gone r n h = room-entered b m l (account_for why) gone r (omega arith)

-- ---- what the code asks before it adds
-- an account other than the one under way has room
pub entering : (b c : ℕ) (l : List ℕ) (a : Account) (n : ℕ) → Room b l → (place_of a ≡ under_at → ⊥) → n ≤ c →
    Spare b l (place_of a) × (n ≤ c)
entering b c l a n r p h = (r.accounts (place_of a) (place-lt a) p, h)

pub adding : (b : ℕ) (l : List ℕ) (i n : ℕ) → Room b l → lost_at ≤ i → i < number_count → b + n < 2 ^ 64 → (i < number_count) × (get_or l i 0 + n < 2 ^ 64)
adding b l i n r p q h = (omega arith, omega (arith, r.others i p q))

-- an account's count, and then its bytes
pub entering-count : (b : ℕ) (l : List ℕ) (a : Account) (k : ℕ) → (k ≡ place_of a) × (k < account_count) → Spare b l (place_of a) → b + 1 < 2 ^ 64 →
    (count_at k < number_count) × (get_or l (count_at k) 0 + 1 < 2 ^ 64)
entering-count b l a k e s h = (omega arith, let q : get_or l (count_at k) 0 ≤ b = rw e.0 s.count in omega arith)

pub entering-bytes :
    (b : ℕ) (l m : List ℕ) (a : Account) (k n : ℕ) → m ≡ plus_at l (count_at k) 1 → (k ≡ place_of a) × (k < account_count) → Spare b l (place_of a) →
    b + n < 2 ^ 64 →
    (bytes_at k < number_count) × (get_or m (bytes_at k) 0 + n < 2 ^ 64)
entering-bytes b l m a k n p e s h = (
  omega arith,
  rw (p, get_or-set_other l (count_at k) (bytes_at k) (get_or l (count_at k) 0 + 1) 0 (λ z. omega arith))
      (let q : get_or l (bytes_at k) 0 ≤ b = rw e.0 s.bytes in omega arith),
)
