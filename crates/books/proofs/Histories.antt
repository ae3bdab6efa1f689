-- Of a session's own list, `taken`: its ledger is the rule's of that list, and it is never refused by 50. Offers shows that the list is the rule's too.
use Prim.Native.Nat.{ℕ}
use mathlib.Core.Path.{◌≡◌, sym, ◌∙◌, ap, subst, fun_ext}
use mathlib.Core.Bool.{false}
use mathlib.Core.List.{List}
use Rattle.sizes.specs.declared.Opening.{Opening}
use Rattle.sizes.specs.Sizes.{sizes_broken}
use Rattle.session_rules.specs.declared.Account.{Account}
use Rattle.session_rules.specs.Accounts.{accounts}
use Rattle.session_rules.specs.Ledger.{shown_of}
use Rattle.session_rules.specs.declared.Session.{Session}
use Rattle.session_rules.specs.Refusals.{record_broken, ledger_of}
use Rattle.session_rules.specs.Session.{fresh}
use Rattle.session_rules.specs.Calls.{Offer, after, taken}
use Rattle.books.specs.Rule.{entries, numbers_of, stamps, last_stamped, received}
use Rattle.books.specs.Demands.{Right, over, all_bytes}
use Rattle.books.proofs.Taken.{after_run, taken-proper}
use Rattle.books.proofs.Accounts.{all_right, last-kept}
use Rattle.books.proofs.Received.{entries-bytes, over-all}
use Rattle.books.proofs.Print.{run-numbers}
use Rattle.books.proofs.Sound.{taken-small, record-sound}

module _ (o : Opening) (xs : List Offer) where
  pub accounts-taken : Right o (taken (fresh o) xs) (ledger_of (after (fresh o) xs))
  accounts-taken = subst (λ (s : Session). Right o (taken (fresh o) xs) (ledger_of s)) (sym (after_run (fresh o) xs)) (all_right o (taken (fresh o) xs) (taken-proper (fresh o) xs))

  pub numbers-taken : (ledger_of (after (fresh o) xs)).numbers ≡ numbers_of (entries o (taken (fresh o) xs))
  numbers-taken = ap (λ (s : Session). (ledger_of s).numbers) (after_run (fresh o) xs) ∙ run-numbers o (taken (fresh o) xs) (taken-proper (fresh o) xs)

  pub last_taken : (ledger_of (after (fresh o) xs)).last ≡ last_stamped (stamps (entries o (taken (fresh o) xs)))
  unfolding shown_of
  last_taken = ap (λ (s : Session). s.rest.last) (after_run (fresh o) xs) ∙ last-kept o (taken (fresh o) xs) (taken-proper (fresh o) xs)

  pub bytes-taken : all_bytes (ledger_of (after (fresh o) xs)) ≡ received (taken (fresh o) xs)
  bytes-taken =
      ap (λ (f : Account → ℕ). over f accounts) (fun_ext accounts-taken.bytes) ∙ over-all (entries o (taken (fresh o) xs)) ∙ entries-bytes o (taken (fresh o) xs)

  pub sound-taken : sizes_broken o ≡ false → record_broken (after (fresh o) xs) ≡ false
  sound-taken e =
      ap record_broken (after_run (fresh o) xs) ∙ record-sound o (taken (fresh o) xs) (taken-proper (fresh o) xs) (taken-small (fresh o) xs) e
