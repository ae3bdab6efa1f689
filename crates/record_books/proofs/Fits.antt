-- The numbers of a session reached from a fresh one fit their places: each is below 2^64.
use Prim.Native.Nat.{ℕ, zero, suc, ◌+◌, ◌-◌, ◌*◌, ◌/◌, ◌%◌, ◌^◌, ◌≤◌, ◌<◌}
use mathlib.Core.Path.{◌≡◌, refl, ap, ◌∙◌}
use mathlib.Core.Bool.{Bool, true, false}
use mathlib.Core.List.{List, [], ◌∷◌}
use native.Mathlib.Omega.{arith}
use lib.ListN.{length, get_or, replicate}
use lib.Dec.{eqb, ltb}
use borrow.Author.Tests.{eqb-false, ltb-true, ltb-false}
use Rattle.rules.specs.Numbered.{first_row}
use Rattle.rules.proofs.Rows.{row-none}
use Rattle.sizes.specs.declared.Opening.{Opening}
use Rattle.sizes.specs.Sizes.{sizes_broken}
use Rattle.session_rules.specs.Transfer.{reading_of}
use Rattle.session_rules.specs.declared.Phase.{Phase}
use Rattle.session_rules.specs.declared.Ledger.{Ledger}
use Rattle.session_rules.specs.Ledger.{shown_of}
use Rattle.session_rules.specs.Accounts.{number_count}
use Rattle.session_rules.specs.Rule50.{Keeps}
use Rattle.session_rules.proofs.Row50.{row-50}
use Rattle.session_rules.specs.Refusals.{taken_most}
use Rattle.session_rules.specs.declared.Session.{Session}
use Rattle.session_rules.specs.Refusals.{ledger_of, take_rows, lost_rows, close_rows}
use Rattle.session_rules.specs.Session.{fresh, took_of, handed_of, hands_out, met_by, take_of, lost_of, close_by, close_of}
use Rattle.session_rules.specs.Calls.{Offer, refusal, next, after}
use Rattle.books.proofs.Sound.{took-taken}
use Rattle.books.proofs.Taken.{next-refused}
use Rattle.books.proofs.Proved.{no-input-stops, nothing-missing}
use Rattle.places.specs.Places.{Below, Numbers}

-- ---- at most 4,294,967,295 transfers are taken
module _ (s : Session) (few : s.rest.taken ≤ taken_most) where
  less : eqb s.rest.taken taken_most ≡ false → s.rest.taken + 1 ≤ taken_most
  less e = let q : s.rest.taken ≡ taken_most → ⊥ = eqb-false s.rest.taken taken_most e in omega arith

  take-few : (room : ℕ) (t : List ℕ) → first_row (take_rows s room (length t)) ≡ 0 → (take_of s room t).session.rest.taken ≤ taken_most
  unfolding take_of took_of handed_of
  take-few room t e =
      let q = row-none (take_rows s room (length t)) (omega arith, (omega arith, (omega arith, (omega arith, (omega arith, tt))))) e in
      rw e (go (hands_out s t) (less q.1.1.0))
    where
      go : (c : Bool) → s.rest.taken + 1 ≤ taken_most → (met_by c s t).session.rest.taken ≤ taken_most
      go true h = few
      go false h = omega (arith, took-taken s t (reading_of s.rest.opening t))

  lost-few : first_row (lost_rows s) ≡ 0 → (lost_of s).session.rest.taken ≤ taken_most
  unfolding lost_of
  lost-few e =
      let q = row-none (lost_rows s) (omega arith, (omega arith, (omega arith, tt))) e in
      rw e (less q.1.1.0)

  close-few : (k : ℕ) → (close_by k s).session.rest.taken ≤ taken_most
  close-few zero = few
  close-few (suc k) = few

  next-few : (x : Offer) → (next s x).rest.taken ≤ taken_most
  unfolding close_of
  next-few (Offer.take b t) = go (refusal s (Offer.take b t)) refl
    where
      go : (k : ℕ) → refusal s (Offer.take b t) ≡ k → (next s (Offer.take b t)).rest.taken ≤ taken_most
      go zero e = take-few (length b) t e
      go (suc k) e = rw (next-refused s (Offer.take b t) k e) few
  next-few Offer.lost = go (refusal s Offer.lost) refl
    where
      go : (k : ℕ) → refusal s Offer.lost ≡ k → (next s Offer.lost).rest.taken ≤ taken_most
      go zero e = lost-few e
      go (suc k) e = rw (next-refused s Offer.lost k e) few
  next-few Offer.close = close-few (first_row (close_rows s))

after-few : (xs : List Offer) (s : Session) → s.rest.taken ≤ taken_most → (after s xs).rest.taken ≤ taken_most
after-few [] s h = h
after-few (x ∷ xs) s h = after-few xs (next s x) (next-few s h x)

-- ---- each number is within what 50 allows of so many
below_all : (m : ℕ) (l : List ℕ) → ((i : ℕ) → i < length l → get_or l i 0 < m) → Below m l
below_all m [] f = tt
below_all m (x ∷ xs) f = (f 0 (omega arith), below_all m xs (λ i h. f (suc i) (omega arith)))

module _ (o : Opening) (p : Phase) (l : Ledger) (n : ℕ) (few : n ≤ taken_most) (keeps : Keeps o p l n) where
  abbrev at : ℕ → ℕ
  at i = get_or l.numbers i 0

  -- an account's count and bytes
  account : (i k r : ℕ) → i ≡ 2 * k + r → r < 2 → k < 13 → at i < 2 ^ 64
  account i k zero e h j = let c : at i ≡ at (2 * k) = ap at (let q : i ≡ 2 * k = omega arith in q) in omega (arith, keeps.counts k j)
  account i k (suc zero) e h j = let c : at i ≡ at (2 * k + 1) = ap at e in omega (arith, keeps.bytes k j)
  account i k (suc (suc r)) e h j = absurd (omega arith)

  -- the other counts
  other : (i j : ℕ) → i ≡ 26 + j → j < 5 → at i < 2 ^ 64
  other i zero e h = let c : at i ≡ at 26 = ap at e in omega (arith, keeps.lost)
  other i (suc zero) e h = let c : at i ≡ at 27 = ap at e in omega (arith, keeps.idle)
  other i (suc (suc zero)) e h = let c : at i ≡ at 28 = ap at e in omega (arith, keeps.ticks)
  other i (suc (suc (suc zero))) e h = let c : at i ≡ at 29 = ap at e in omega (arith, keeps.backward)
  other i (suc (suc (suc (suc zero)))) e h = let c : at i ≡ at 30 = ap at e in omega (arith, keeps.untimed)
  other i (suc (suc (suc (suc (suc j))))) e h = absurd (omega arith)

  within : (i : ℕ) → i < 31 → at i < 2 ^ 64
  within i h = go (ltb i 26) refl
    where
      go : (c : Bool) → ltb i 26 ≡ c → at i < 2 ^ 64
      go true e = let j : i < 26 = ltb-true i 26 e in account i (i / 2) (i % 2) (omega arith) (omega arith) (omega arith)
      go false e = let j : 26 ≤ i = ltb-false i 26 e in other i (i - 26) (omega arith) (omega arith)

-- ---- a session whose sizes are refused stays as it is
module _ (o : Opening) (e : sizes_broken o ≡ true) where
  refused : (x : Offer) → refusal (fresh o) x ≡ 50
  refused (Offer.take b t) = rw (no-input-stops.broken o [], e)
  refused Offer.lost = rw (no-input-stops.broken o [], e)
  refused Offer.close = rw (no-input-stops.broken o [], e)

  stays : (xs : List Offer) → after (fresh o) xs ≡ fresh o
  stays [] = refl
  stays (x ∷ xs) = ap (λ (s : Session). after s xs) (next-refused (fresh o) x 49 (refused x)) ∙ stays xs

fresh-fits : (o : Opening) → Numbers (ledger_of (fresh o)).numbers
unfolding shown_of
fresh-fits o = record { many = refl; fit = below_all (2 ^ 64) (ledger_of (fresh o)).numbers (λ i h. zeros 31 i) }
  where
    zeros : (k i : ℕ) → get_or (replicate k 0) i 0 < 2 ^ 64
    zeros zero i = omega arith
    zeros (suc k) zero = omega arith
    zeros (suc k) (suc i) = zeros k i

-- THE NUMBERS FIT, whatever was offered
pub fits : (o : Opening) (xs : List Offer) → Numbers (ledger_of (after (fresh o) xs)).numbers
fits o xs = go (sizes_broken o) refl
  where
    many : length (ledger_of (after (fresh o) xs)).numbers ≡ number_count
    many = ap length (nothing-missing.numbers o xs)

    go : (c : Bool) → sizes_broken o ≡ c → Numbers (ledger_of (after (fresh o) xs)).numbers
    go true e = rw (stays o e xs) (fresh-fits o)
    go false e =
        let s : Session = after (fresh o) xs in
        let k : Keeps s.rest.opening s.rest.track.phase (ledger_of s) s.rest.taken = (row-50 s.rest.opening s.rest.track.phase (ledger_of s) s.rest.taken).0 (no-input-stops.broken o xs ∙ e) in
        record {
          many = many;
          fit = below_all (2 ^ 64) (ledger_of s).numbers (λ i h. within s.rest.opening s.rest.track.phase (ledger_of s) s.rest.taken (after-few xs (fresh o) (omega arith)) k i (omega (arith, many)));
        }
