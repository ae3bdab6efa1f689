-- The ledger of lent numbers: one law for each way through the code.
use Rattle.std.specs.Prelude.{None, Some}
use Rattle.session_rules.specs.Options.{Ended, Stamp}
use Prim.Native.Nat.{ℕ}
use mathlib.Core.Path.{◌≡◌, refl, ◌∙◌}
use mathlib.Core.List.{List}
use Rattle.session_rules.specs.declared.Reason.{Reason}
use Rattle.session_rules.specs.declared.Delivery.{Delivery}
use Rattle.session_rules.specs.declared.Fate.{Fate}
use Rattle.session_rules.specs.declared.Account.{Account}
use Rattle.session_rules.specs.declared.Step.{Step}
use Rattle.session_rules.specs.declared.Step.TheVariants.{Forward, Backward}
use Rattle.session_rules.specs.Entry.{Entry}
use Rattle.session_rules.specs.Step.{step_of}
use Rattle.session_rules.specs.Ledger.{plus_of, stepped_of, timed_of, post_of, ended_of, fated_of}
use Rattle.session_rules.specs.Accounts.{account_for, lost_at, idle_at, untimed_at}
use Rattle.ledger.specs.Inner.{plus_at, entered_in, stepped_in, ended_in, ledger_with}

-- ---- what is entered in place is what is posted
module _ (l : List ℕ) (s : Stamp) where
  pub with-stepped : (t : Step) → stepped_of (ledger_with l s) t ≡ ledger_with (stepped_in l t) s
  unfolding plus_of
  with-stepped (Forward n) = refl
  with-stepped (Backward n) = refl

  pub with-ended : (e : Ended) (gone : ℕ) → ended_of (ledger_with l s) e gone ≡ ledger_with (ended_in l e gone) s
  unfolding post_of plus_of
  with-ended None gone = refl
  with-ended (Some why) gone = refl

  pub with-headers : (n : ℕ) → post_of (ledger_with l s) (Entry.Headers n) ≡ ledger_with (entered_in l Account.Headers n) s
  unfolding post_of plus_of
  with-headers n = refl

  pub with-lost : post_of (ledger_with l s) Entry.Lost ≡ ledger_with (plus_at l lost_at 1) s
  unfolding post_of plus_of
  with-lost = refl

-- ---- the time of a delivered frame
module _ (l : List ℕ) (last s : Stamp) where
  pub timed-none : (m : List ℕ) → s ≡ None → m ≡ plus_at l untimed_at 1 → ledger_with m last ≡ timed_of (ledger_with l last) s
  unfolding timed_of plus_of
  timed-none m e p = rw (e, p)

  pub timed-first : (b : ℕ) → s ≡ Some b → last ≡ None → ledger_with l s ≡ timed_of (ledger_with l last) s
  unfolding timed_of
  timed-first b e p = rw (e, p)

  pub timed-step : (a b : ℕ) (t : Step) (m : List ℕ) → s ≡ Some b → last ≡ Some a → t ≡ step_of a b → m ≡ stepped_in l t →
      ledger_with m s ≡ timed_of (ledger_with l last) s
  unfolding timed_of
  timed-step a b t m e p q r = rw (e, p, r, q, with-stepped l (Some a) (step_of a b))

-- ---- a transfer's fate
module _ (l : List ℕ) (last : Stamp) (f : Fate) (n : ℕ) where
  pub fated-idle : (m : List ℕ) → f ≡ Fate.Idle → m ≡ plus_at l idle_at 1 → ledger_with m last ≡ fated_of (ledger_with l last) f n
  unfolding post_of plus_of
  fated-idle m e p = rw (e, p)

  pub fated-kept : f ≡ Fate.Kept → ledger_with l last ≡ fated_of (ledger_with l last) f n
  fated-kept e = rw e

  pub fated-stray : (m : List ℕ) → f ≡ Fate.Stray → m ≡ entered_in l Account.Stray n → ledger_with m last ≡ fated_of (ledger_with l last) f n
  unfolding post_of plus_of
  fated-stray m e p = rw (e, p)

  pub fated-delivered : (d : Delivery) (k m : List ℕ) (r : Stamp) → f ≡ Fate.Delivered d → k ≡ entered_in l Account.Delivered d.len →
      ledger_with m r ≡ timed_of (ledger_with k last) d.stamp → ledger_with m r ≡ fated_of (ledger_with l last) f n
  unfolding post_of plus_of
  fated-delivered d k m r e p q = q ∙ rw (e, p)

  pub fated-still : (d : Delivery) (m : List ℕ) → f ≡ Fate.Still d → m ≡ entered_in l Account.Still d.len → ledger_with m last ≡ fated_of (ledger_with l last) f n
  unfolding post_of plus_of
  fated-still d m e p = rw (e, p)

  pub fated-dropped : (why : Reason) (a : Account) (m : List ℕ) → f ≡ Fate.Dropped why → a ≡ account_for why → m ≡ entered_in l a n →
      ledger_with m last ≡ fated_of (ledger_with l last) f n
  unfolding post_of plus_of
  fated-dropped why a m e q p = rw (e, p, q)

  pub fated-unreadable : (k : ℕ) (m : List ℕ) → f ≡ Fate.Unreadable k → m ≡ entered_in l Account.Unreadable n →
      ledger_with m last ≡ fated_of (ledger_with l last) f n
  unfolding post_of plus_of
  fated-unreadable k m e p = rw (e, p)
