-- Taking transfers round by round: what holds after each.
use Prim.Native.Nat.{ℕ, zero, suc, ◌+◌, ◌*◌, ◌-◌, ◌/◌, ◌<◌, ◌≤◌}
use mathlib.Core.Path.{◌≡◌, refl, ap, ◌∙◌}
use mathlib.Core.List.{List}
use lib.ListN.{length, take, drop}
use Rattle.std.proofs.Math.Nat.{div-mul-le_self, mul-le-mul_right}
use native.Mathlib.Nat.{div-eq_of_lt, div-zero}
use native.Mathlib.Numerals.{add-one}
use native.Mathlib.Omega.{arith}
use Rattle.session_rules.specs.declared.Session.{Session}
use Rattle.session_rules.specs.Ledger.{bytes_of}
use Rattle.session_rules.specs.declared.Taken.{Taken}
use Rattle.session.specs.declared.RestTaken.{RestTaken}
use Rattle.session_rules.specs.declared.Opened.{Opened}
use Rattle.rules.specs.Numbered.{first_row}
use Rattle.session_rules.specs.Refusals.{opening_rows}
use Rattle.session_rules.specs.Refusals.{posted_of}
use Rattle.session_rules.specs.Session.{open_of, open_by, take_of, buffer_of}
use Rattle.books.proofs.Sized.{next-sized}
use Rattle.exports.specs.Taking.{State, took_first, took_all, opened, delivered_of}
use Rattle.sizes.specs.declared.Opening.{Opening}
use Rattle.session_rules.specs.declared.Account.{Account}
use Rattle.session_rules.specs.Accounts.{number_count, place_of}
use Rattle.session_rules.proofs.Places.{Sized}
use Rattle.session.specs.Inner.{whole_of, taken_with}
use Rattle.session_rules.specs.Calls.{Offer}

-- ---- some rounds and the first transfers of the next are taken
pub record Going (size : ℕ) (l : List ℕ) (a : State) (b : List ℕ) (s : Session) (i k : ℕ) : Type 0 where
  pub state : record { session = s; buffer = b } ≡ took_first size l (took_all size l a i) k
  pub sized : Sized (posted_of s)

pub going_start : (p : Opening) (size : ℕ) (l b : List ℕ) (o : Opened) → o ≡ open_of p (length b) → length o.session.numbers ≡ number_count → Going size l (opened p b) b o.session 0 0
unfolding took_first took_all
going_start p size l b o e f = record { state = rw e refl; sized = f }

-- the next transfer lies in the bytes
pub lies : (size k : ℕ) (l : List ℕ) → k < length l / size → k * size + size ≤ length l
lies size k l h =
    let a : (k + 1) * size ≤ length l / size * size = mul-le-mul_right size (omega (arith, h)) in
    omega (arith, a, div-mul-le_self (length l) size)

module _ (size : ℕ) (l : List ℕ) (a : State) (b : List ℕ) (s : Session) (i k : ℕ) (g : Going size l a b s i k) where
  pub going_more : (d : List ℕ) (x : RestTaken) (m : List ℕ) → taken_with x m ≡ take_of s (length b) (take (k * size + size - k * size) (drop (k * size) l))
      → d ≡ buffer_of s b (take (k * size + size - k * size) (drop (k * size) l)) → Going size l a d (whole_of x.rest m) i (k + 1)
  unfolding took_first
  going_more d x m v w = record {
    state =
        let e : k * size + size - k * size ≡ size = omega arith in
        ap (λ (y : Taken). record { session = y.session; buffer = d }) v ∙ rw (add-one k, ← g.state, w, e) refl;
    sized = ap (λ (y : Taken). length y.session.numbers) v ∙ next-sized s g.sized (Offer.take b (take (k * size + size - k * size) (drop (k * size) l)));
  }

  -- the round is over
  pub going-round : k ≡ length l / size → Going size l a b s (i + 1) 0
  unfolding took_first took_all
  going-round e = record { state = rw (add-one i, ← e) g.state; sized = g.sized }

-- ---- the answer: the bytes delivered, and the buffer
abbrev Answered : ℕ → List ℕ → State → ℕ → ℕ → List ℕ → Type 0
Answered size l a times r b = (r ≡ delivered_of (took_all size l a times)) × (b ≡ (took_all size l a times).buffer)

pub all-taken : (size times : ℕ) (l : List ℕ) (a : State) (b : List ℕ) (s : Session) (r : ℕ) → Going size l a b s times 0 → r ≡ bytes_of (posted_of s) (place_of Account.Delivered)
    → Answered size l a times r b
unfolding took_first
all-taken size times l a b s r g q = (q ∙ ap (λ (z : State). delivered_of z) g.state, ap (λ (z : State). z.buffer) g.state)

no-round : (size : ℕ) (l : List ℕ) (a : State) (i : ℕ) → length l / size ≡ 0 → a ≡ took_all size l a i
unfolding took_first took_all
no-round size l a zero e = refl
no-round size l a (suc i) e = rw e (no-round size l a i e)

module _ (p : Opening) (size times : ℕ) (l b : List ℕ) where
  none : (k : ℕ) → 0 ≡ bytes_of (posted_of (open_by k p).session) (place_of Account.Delivered)
  none zero = refl
  none (suc k) = refl

  nothing : length l / size ≡ 0 → Answered size l (opened p b) times 0 b
  unfolding open_of
  nothing e =
      let x = no-round size l (opened p b) times e in
      (none (first_row (opening_rows p (length b))) ∙ ap (λ (y : State). delivered_of y) x, ap (λ (y : State). y.buffer) x)

  pub no_size : size ≡ 0 → Answered size l (opened p b) times 0 b
  no_size e = nothing (rw e (div-zero (length l)))

  pub too_short : length l < size → Answered size l (opened p b) times 0 b
  too_short h = nothing (div-eq_of_lt h)
