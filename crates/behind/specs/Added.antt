-- Document 02, "Fourteen": "ledgers and steps to earlier frames may differ". What the calls add to each account is the same but for the earlier frame, and of the steps only the first may differ: from the
-- list, and of the ledgers.
use Rattle.std.specs.Prelude.{ℕ, ◌+◌, ◌≤◌, ◌≡◌, List, [], ◌∷◌, ◌++◌, map, get_or}
use Rattle.sizes.specs.declared.Opening.{Opening}
use Rattle.session_rules.specs.declared.Account.{Account}
use Rattle.session_rules.specs.declared.Ledger.{Ledger}
use Rattle.session_rules.specs.Entry.{Entry}
use Rattle.session_rules.specs.Ledger.{count_of, bytes_of}
use Rattle.session_rules.specs.Accounts.{place_of, lost_at, idle_at, ticks_at, backward_at, untimed_at}
use Rattle.session_rules.specs.Refusals.{ledger_of}
use Rattle.session_rules.specs.Session.{fresh}
use Rattle.session_rules.specs.Call.{Ask, Call}
use Rattle.session_rules.specs.Calls.{Offer, after}
use Rattle.books.specs.Rule.{Item, entry_of, events, frames_by, loose, entries, lost_line, idle_line, one_in, part_in, total, stamps, untimed, forward, back, between}
use Rattle.books.specs.Demands.{UnderWay}
use Rattle.books.specs.Offers.{list_of}
use Rattle.books.specs.Alike.{At}
use Rattle.behind.specs.Behind.{offered, Behind}

pub data AtMostOne : List Item → Type 0 where
  none : AtMostOne []
  one : (x : Item) → AtMostOne (x ∷ [])

-- WHAT THE CALLS ADD to a list: what was settled before them stays; the earlier frame, under way before them, if there is one, becomes at most one entry; then come the frames and strays that begin in
-- them, `begun`, and the entries of their transfers and reports by themselves, `single`
pub record Adds (o : Opening) (before after : List Call) (begun : List Item) (single : List Entry) : Type 0 where
  pub settled : List Item
  pub was : List Item
  pub became : List Item
  pub was-way : UnderWay was
  pub became-one : AtMostOne became
  pub had : frames_by o before ≡ settled ++ was
  pub has : frames_by o after ≡ (settled ++ became) ++ begun
  pub loose-after : loose (events o after) ≡ loose (events o before) ++ single

-- of two lists the same frames and strays begin, and the same entries come besides
pub record AddsAlike (o p : Opening) (cs cs' ds ds' : List Call) : Type 0 where
  pub begun : List Item
  pub single : List Entry
  pub mine : Adds o cs cs' begun single
  pub yours : Adds p ds ds' begun single

-- a number that grows from n to m by this measure: but for the earlier frame, as it was and as it became, by what the calls add
abbrev pub Grows : (Entry → ℕ) → ℕ → ℕ → List Item → List Item → List Item → List Entry → Type 0
Grows measure n m was became begun single =
    m + total measure (map entry_of was) ≡ n + total measure (map entry_of became) + total measure (map entry_of begun ++ single)

-- the step from the last of the earlier stamps to the first of the later ones; none, where either has none
abbrev pub first_step : (ℕ → ℕ → ℕ) → List ℕ → List ℕ → ℕ
first_step f [] later = 0
first_step f (a ∷ []) [] = 0
first_step f (a ∷ []) (b ∷ bs) = f a b
first_step f (a ∷ c ∷ cs) later = first_step f (c ∷ cs) later

abbrev pub steps_by : (ℕ → ℕ → ℕ) → List ℕ → List ℕ → ℕ
steps_by f earlier later = between f earlier + first_step f earlier later + between f later

-- THE LEDGERS l before the calls and m after them
pub record Grown (o : Opening) (before after : List Call) (begun : List Item) (single : List Entry) (a : Adds o before after begun single) (l m : Ledger) : Type 0 where
  pub counts : (k : Account) → Grows (one_in (place_of k)) (count_of l (place_of k)) (count_of m (place_of k)) a.was a.became begun single
  pub bytes : (k : Account) → Grows (part_in (place_of k)) (bytes_of l (place_of k)) (bytes_of m (place_of k)) a.was a.became begun single
  pub losses : Grows (one_in lost_line) (get_or l.numbers lost_at 0) (get_or m.numbers lost_at 0) a.was a.became begun single
  pub idles : Grows (one_in idle_line) (get_or l.numbers idle_at 0) (get_or m.numbers idle_at 0) a.was a.became begun single
  pub plain : Grows untimed (get_or l.numbers untimed_at 0) (get_or m.numbers untimed_at 0) a.was a.became begun single
  -- the steps up to the earlier frame, the first one from there, and those between the frames that begin in the calls
  pub ticks : get_or m.numbers ticks_at 0 ≡ steps_by forward (stamps (entries o before) ++ stamps (map entry_of a.became)) (stamps (map entry_of begun))
  pub backward : get_or m.numbers backward_at 0 ≡ steps_by back (stamps (entries o before) ++ stamps (map entry_of a.became)) (stamps (map entry_of begun))

-- OF TWO HISTORIES: what is offered from there on, to x and to y, adds alike to both lists, and so to both sessions' ledgers
pub record Bills (o p : Opening) (xs ys : List Offer) (x y : At) (t : List ℕ) (ks : List Ask) : Type 0 where
  pub alike : AddsAlike o p (list_of o xs) (list_of o (xs ++ offered x t ks)) (list_of p ys) (list_of p (ys ++ offered y t ks))
  pub mine : Grown o (list_of o xs) (list_of o (xs ++ offered x t ks)) alike.begun alike.single alike.mine (ledger_of (after (fresh o) xs))
      (ledger_of (after (fresh o) (xs ++ offered x t ks)))
  pub yours : Grown p (list_of p ys) (list_of p (ys ++ offered y t ks)) alike.begun alike.single alike.yours (ledger_of (after (fresh p) ys))
      (ledger_of (after (fresh p) (ys ++ offered y t ks)))

-- AS THE OWNER READS IT: "a bad frame must never cost the customer a later one". x has met whatever damage; y is fresh and has met none. From the transfer on both are heard alike, bytes included; and x
-- bills, over what it had billed, every frame and every still that y delivers, and their bytes.
abbrev pub billed : Opening → List Offer → (Ledger → ℕ → ℕ) → Account → ℕ
billed o xs number_of k = number_of (ledger_of (after (fresh o) xs)) (place_of k)

pub record NeverCosts (o : Opening) (xs : List Offer) (x y : At) (t : List ℕ) (ks : List Ask) : Type 0 where
  pub behind : Behind x y t ks
  pub frames : billed o xs count_of Account.Delivered + billed o (offered y t ks) count_of Account.Delivered ≤ billed o (xs ++ offered x t ks) count_of Account.Delivered
  pub bytes : billed o xs bytes_of Account.Delivered + billed o (offered y t ks) bytes_of Account.Delivered ≤ billed o (xs ++ offered x t ks) bytes_of Account.Delivered
  pub stills : billed o xs count_of Account.Still + billed o (offered y t ks) count_of Account.Still ≤ billed o (xs ++ offered x t ks) count_of Account.Still
  pub still-bytes : billed o xs bytes_of Account.Still + billed o (offered y t ks) bytes_of Account.Still ≤ billed o (xs ++ offered x t ks) bytes_of Account.Still
