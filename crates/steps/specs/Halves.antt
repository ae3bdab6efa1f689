-- Document 02, Six: "When I split a job at a middle frame, the two halves should bill as the whole." The middle frame ends the first half and begins the second.
-- All is over the rule's own definitions (books/specs/Rule).
use Rattle.std.specs.Prelude.{ℕ, ◌+◌, ◌≡◌, List, [], ◌∷◌, ◌++◌, get_or, Some}
use Rattle.sizes.specs.declared.Opening.{Opening}
use Rattle.session_rules.specs.declared.Delivery.{Delivery}
use Rattle.session_rules.specs.declared.Ledger.{Ledger}
use Rattle.session_rules.specs.Accounts.{ticks_at, backward_at, untimed_at}
use Rattle.session_rules.specs.Entry.{Entry}
use Rattle.session_rules.specs.Refusals.{ledger_of}
use Rattle.session_rules.specs.Session.{fresh}
use Rattle.session_rules.specs.Call.{Call}
use Rattle.session_rules.specs.Calls.{Offer, after}
use Rattle.books.specs.Offers.{list_of}
use Rattle.books.specs.Rule.{Item, frames_by, total, stamps, untimed, forward, back, between}
use Rattle.steps.specs.Cut.{Middle}

-- stamps
pub record StampHalves (before : List ℕ) (middle : ℕ) (after : List ℕ) : Type 0 where
  pub ticks : between forward (before ++ (middle ∷ after)) ≡ between forward (before ++ (middle ∷ [])) + between forward (middle ∷ after)
  pub backward : between back (before ++ (middle ∷ after)) ≡ between back (before ++ (middle ∷ [])) + between back (middle ∷ after)

-- entries, untimed frames and all else among them; the middle one is a delivered frame that has a stamp
pub record EntryHalves (before : List Entry) (middle : Entry) (after : List Entry) : Type 0 where
  pub ticks : between forward (stamps (before ++ (middle ∷ after))) ≡
      between forward (stamps (before ++ (middle ∷ []))) + between forward (stamps (middle ∷ after))
  pub backward : between back (stamps (before ++ (middle ∷ after))) ≡
      between back (stamps (before ++ (middle ∷ []))) + between back (stamps (middle ∷ after))
  pub plain : total untimed (before ++ (middle ∷ after)) ≡ total untimed (before ++ (middle ∷ [])) + total untimed (middle ∷ after)

-- A JOB: an opening and what is offered to a fresh session, refused or not; its ledger at the end; and its frames, which are the rule's, of the list of those offers (books/specs/Offers)
pub record Job : Type 0 where
  pub opening : Opening
  pub offered : List Offer

abbrev pub job : Opening → List Offer → Job
job o xs = record { opening = o; offered = xs }

abbrev pub ledger_after : Job → Ledger
ledger_after j = ledger_of (after (fresh j.opening) j.offered)

abbrev pub frames_in : Job → List Item
frames_in j = frames_by j.opening (list_of j.opening j.offered)

-- the frames of the whole are those of the first half and of the second, which share the middle one; it is delivered and has a stamp
pub record Split (whole first second : Job) : Type 0 where
  pub before : List Item
  pub middle : Item
  pub after : List Item
  pub all : frames_in whole ≡ before ++ (middle ∷ after)
  pub up_to : frames_in first ≡ before ++ (middle ∷ [])
  pub from : frames_in second ≡ middle ∷ after
  pub delivery : Delivery
  pub delivered : middle.entry ≡ Entry.Delivered delivery
  pub stamp : ℕ
  pub stamped : delivery.stamp ≡ Some stamp

-- what a job is billed by
abbrev pub billed : Job → ℕ → ℕ
billed j place = get_or (ledger_after j).numbers place 0

pub record BillAsWhole (whole first second : Job) : Type 0 where
  pub ticks : billed whole ticks_at ≡ billed first ticks_at + billed second ticks_at
  pub backward : billed whole backward_at ≡ billed first backward_at + billed second backward_at
  pub untimed : billed whole untimed_at ≡ billed first untimed_at + billed second untimed_at

pub record Halves : Type 0 where
  pub of-stamps : (before : List ℕ) (middle : ℕ) (after : List ℕ) → StampHalves before middle after
  pub of-entries : (before after : List Entry) (d : Delivery) (s : ℕ) → d.stamp ≡ Some s → EntryHalves before (Entry.Delivered d) after
  pub of-jobs : (whole first second : Job) → Split whole first second → BillAsWhole whole first second
  pub of_calls : (o : Opening) (whole first second : List Offer) (before : List Call) (t : List ℕ) (own after : List Call) → Middle o before t own →
      list_of o whole ≡ before ++ (Call.transfer t ∷ (own ++ after)) →
      list_of o first ≡ before ++ (Call.transfer t ∷ own) →
      list_of o second ≡ Call.transfer t ∷ (own ++ after) →
      BillAsWhole (job o whole) (job o first) (job o second)
