-- The ledger's numbers, all at once, are those of the rule's print.
use Prim.Native.Nat.{ℕ, zero, suc}
use mathlib.Core.Path.{◌≡◌, refl, sym, ◌∙◌, ap}
use mathlib.Core.List.{List, [], ◌∷◌}
use native.Mathlib.Omega.{arith}
use lib.ListN.{length, get_or}
use Rattle.sizes.specs.declared.Opening.{Opening}
use Rattle.session_rules.specs.declared.Account.{Account}
use Rattle.session_rules.specs.declared.Ledger.{Ledger}
use Rattle.session_rules.specs.Accounts.{accounts, place_of, number_count}
use Rattle.session_rules.specs.Ledger.{count_of, bytes_of}
use Rattle.session_rules.specs.Refusals.{posted_of, ledger_of}
use Rattle.session_rules.specs.Session.{fresh}
use Rattle.books.specs.Rule.{entries, account_numbers, numbers_of}
use Rattle.books.specs.Demands.{Right}
use Rattle.books.proofs.Taken.{Proper}
use Rattle.books.proofs.Accounts.{end-sized, all_right}
use Rattle.session_rules.proofs.Places.{Sized, shown-sized}
use Rattle.session_rules.specs.Call.{Call}
use Rattle.session_rules.specs.Calls.{run}

-- a list is the list of what stands at its places
abbrev spelt : ℕ → ℕ → List ℕ → List ℕ
spelt zero i l = []
spelt (suc n) i l = get_or l i 0 ∷ spelt n (suc i) l

shift : (n i : ℕ) (x : ℕ) (l : List ℕ) → spelt n (suc i) (x ∷ l) ≡ spelt n i l
shift zero i x l = refl
shift (suc n) i x l = ap (get_or l i 0 ∷◌) (shift n (suc i) x l)

spell : (n : ℕ) (l : List ℕ) → length l ≡ n → l ≡ spelt n 0 l
spell zero [] e = refl
spell zero (x ∷ l) e = absurd (omega arith)
spell (suc n) [] e = absurd (omega arith)
spell (suc n) (x ∷ l) e = ap (x ∷◌) (spell n l (omega arith) ∙ sym (shift n 0 x l))

-- the accounts' numbers of a ledger, and then the rest
abbrev accounts_in : List Account → Ledger → List ℕ → List ℕ
accounts_in [] l rest = rest
accounts_in (a ∷ more) l rest = count_of l (place_of a) ∷ bytes_of l (place_of a) ∷ accounts_in more l rest

module _ (o : Opening) (cs : List Call) (l : Ledger) (r : Right o cs l) where
  by-account : (more : List Account) (x y : List ℕ) → x ≡ y → accounts_in more l x ≡ account_numbers more (entries o cs) y
  by-account [] x y e = e
  by-account (a ∷ more) x y e = λ i. r.counts a i ∷ r.bytes a i ∷ by-account more x y e i

  right-numbers : Sized l → l.numbers ≡ numbers_of (entries o cs)
  right-numbers e =
      spell number_count l.numbers e ∙ by-account accounts _ _ (λ i. r.losses i ∷ r.idles i ∷ r.ticks i ∷ r.backward i ∷ r.plain i ∷ [])

pub run-numbers : (o : Opening) (cs : List Call) → Proper (fresh o) cs → (ledger_of (run (fresh o) cs)).numbers ≡ numbers_of (entries o cs)
run-numbers o cs p =
    right-numbers o cs (ledger_of (run (fresh o) cs)) (all_right o cs p) (shown-sized (posted_of (run (fresh o) cs)) (run (fresh o) cs).rest.track.phase (end-sized o cs p))
