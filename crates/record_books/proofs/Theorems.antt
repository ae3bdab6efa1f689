-- THE RECORD THAT A POLLING LOOP KEEPS is the record of the session after the same offers, so that every theorem of the books speaks of these bytes.
use Prim.Native.Nat.{ℕ}
use mathlib.Core.Path.{◌≡◌, refl, sym, ap, ◌∙◌}
use mathlib.Core.Bool.{false}
use mathlib.Core.List.{List, [], ◌∷◌, ◌++◌}
use lib.ListN.{length}
use Rattle.sizes.specs.declared.Opening.{Opening}
use Rattle.session_rules.specs.Ledger.{shown_of}
use Rattle.session_rules.specs.declared.Session.{Session}
use Rattle.session_rules.specs.Refusals.{ledger_of}
use Rattle.session_rules.specs.Session.{fresh}
use Rattle.session_rules.specs.Calls.{Offer, next, after}
use Rattle.books.specs.Rule.{entries, numbers_of}
use Rattle.books.specs.Offers.{list_of, take_says, lost_says, close_says, take_leaves}
use Rattle.books.proofs.Proved.{frames-whole, nothing-missing}
use Rattle.places.specs.Places.{record_of, numbers_in, broken54, Numbers}
use Rattle.places.proofs.Trips.{read_back, laid-fine}
use Rattle.ledger_record.specs.Recorded.{take_in, take_buffer, lost_in, close_in}
use Rattle.ledger_record.proofs.Square.{square-take, square-buffer, square-lost, square-close}
use Rattle.record_books.specs.Kept.{Kept, begun, onward, kept, kept_of}
use Rattle.record_books.proofs.Fits.{fits}

after_more : (s : Session) (xs : List Offer) (x : Offer) → after s (xs ++ (x ∷ [])) ≡ next (after s xs) x
after_more s [] x = refl
after_more s (y ∷ xs) x = after_more (next s y) xs x

-- one call more: what is kept of a session whose numbers fit goes on as the session does
one_more : (s : Session) → Numbers (ledger_of s).numbers → (x : Offer) → onward (kept_of s) x ≡ kept_of (next s x)
one_more s w (Offer.take b t) = let q = square-take s w (length b) t in λ i. record { bytes = q.1 i; rest = (q.0 i).rest }
one_more s w Offer.lost = let q = square-lost s w in λ i. record { bytes = q.1 i; rest = (q.0 i).rest }
one_more s w Offer.close = let q = square-close s w in λ i. record { bytes = q.1 i; rest = (q.0 i).rest }

begun_kept : (o : Opening) → begun o ≡ kept_of (fresh o)
unfolding record_of shown_of
begun_kept o = refl

from : (o : Opening) (ys xs : List Offer) → kept (kept_of (after (fresh o) ys)) xs ≡ kept_of (after (after (fresh o) ys) xs)
from o ys [] = refl
from o ys (x ∷ xs) =
    ap (λ (k : Kept). kept k xs) (one_more (after (fresh o) ys) (fits o ys) x ∙ ap kept_of (sym (after_more (fresh o) ys x)))
    ∙ from o (ys ++ (x ∷ [])) xs
    ∙ ap (λ (s : Session). kept_of (after s xs)) (after_more (fresh o) ys x)

module _ (o : Opening) (xs : List Offer) where
  abbrev now₀ : Kept
  now₀ = kept (begun o) xs

  -- FROM 320 ZERO BYTES AND A FRESH REST, after any offers: the record of the session after them, and its rest
  pub record-right : now₀ ≡ kept_of (after (fresh o) xs)
  record-right = ap (λ (k : Kept). kept k xs) (begun_kept o) ∙ from o [] xs

  -- so the numbers in its places are what the rule gives from the opening and the list of calls alone, and it is never refused by 54
  pub record-numbers : numbers_in now₀.bytes ≡ numbers_of (entries o (list_of o xs))
  record-numbers = ap (λ (k : Kept). numbers_in k.bytes) record-right ∙ read_back (ledger_of (after (fresh o) xs)).numbers (fits o xs) ∙ nothing-missing.numbers o xs

  pub record-fine : broken54 now₀.bytes ≡ false
  record-fine = ap (λ (k : Kept). broken54 k.bytes) record-right ∙ laid-fine (ledger_of (after (fresh o) xs)).numbers (fits o xs)

  -- and every offer answers, and writes, what the list says
  pub record-answer : (buffer t : List ℕ) → (take_in now₀.bytes now₀.rest (length buffer) t).outcome ≡ take_says o (list_of o xs) buffer t
  record-answer buffer t =
      ap (λ (k : Kept). (take_in k.bytes k.rest (length buffer) t).outcome) record-right
      ∙ ap (λ x. x.outcome) (square-take (after (fresh o) xs) (fits o xs) (length buffer) t).0
      ∙ nothing-missing.answers o xs buffer t

  pub record-buffer : (buffer t : List ℕ) → take_buffer now₀.bytes now₀.rest buffer t ≡ take_leaves o (list_of o xs) buffer t
  record-buffer buffer t =
      ap (λ (k : Kept). take_buffer k.bytes k.rest buffer t) record-right ∙ square-buffer (after (fresh o) xs) (fits o xs) buffer t ∙ frames-whole.buffers o xs buffer t

  pub record-report : (lost_in now₀.bytes now₀.rest).report ≡ lost_says o (list_of o xs)
  record-report =
      ap (λ (k : Kept). (lost_in k.bytes k.rest).report) record-right ∙ ap (λ x. x.report) (square-lost (after (fresh o) xs) (fits o xs)).0 ∙ nothing-missing.reports o xs

  pub record-close : (close_in now₀.bytes now₀.rest).closing ≡ close_says o (list_of o xs)
  record-close =
      ap (λ (k : Kept). (close_in k.bytes k.rest).closing) record-right ∙ ap (λ x. x.closing) (square-close (after (fresh o) xs) (fits o xs)).0 ∙ nothing-missing.closings o xs
