-- Document 01, "The ledger program", and document 02, Thirteen: how a trace stands, from its records alone.
use Rattle.std.specs.Prelude.{ℕ, ◌+◌, ◌≤◌, ◌≡◌, Bool, true, false, cond, ◌||◌, List, [], ◌∷◌, ◌++◌, map, length, ltb, eqb, Ok}
use Rattle.sizes.specs.declared.Opening.{Opening}
use Rattle.session_rules.specs.Ledger.{no_ledger}
use Rattle.session_rules.specs.Refusals.{taken_most}
use Rattle.session_rules.specs.declared.Session.{Session}
use Rattle.session_rules.specs.declared.Outcome.{Outcome}
use Rattle.session_rules.specs.Session.{fresh}
use Rattle.session_rules.specs.Call.{Ask, Call}
use Rattle.session_rules.specs.Calls.{Offer, after, taken, offer_with}
use Rattle.books.specs.Rule.{entries, numbers_of}
use Rattle.books.specs.Answer.{answer_of, ending_of}
use Rattle.records.specs.declared.Form.{Form}
use Rattle.records.specs.Record.{kind_at, record_bad}
use Rattle.trace.specs.Record.{record_ask, record_call}
use Rattle.trace.specs.Trace.{room_for}
use Rattle.trace.specs.declared.Said.{Said}
use Rattle.trace.specs.declared.State.{State}
use Rattle.trace.specs.declared.State.TheVariants.{Good, Bad, Refused}

-- close is among the records
abbrev pub closed_in : List (List ℕ) → Bool
closed_in [] = false
closed_in (r ∷ rs) = eqb (kind_at r) 2 || closed_in rs

-- how many of them are transfers or lost reports: kind 0 or 1
abbrev pub count_in : List (List ℕ) → ℕ
count_in [] = 0
count_in (r ∷ rs) = cond (ltb (kind_at r) 2) 1 0 + count_in rs

-- the record r after the records rs: bad in itself, or because anything after close is
abbrev pub bad_after : Form → List (List ℕ) → List ℕ → Bool
bad_after f rs r = closed_in rs || record_bad f r

-- or past the limit of 4,294,967,295 transfers and reports
abbrev pub past_after : List (List ℕ) → List ℕ → Bool
past_after rs r = ltb taken_most (count_in (rs ++ (r ∷ [])))

-- THE FIRST of either decides, by its number from 1: bad, also where both; else refused by 52
abbrev pub state_after : Form → List (List ℕ) → List (List ℕ) → State
state_after f rs [] = Good
state_after f rs (r ∷ more) =
    cond (bad_after f rs r) (Bad (length rs + 1)) (cond (past_after rs r) (Refused 52 (length rs + 1)) (state_after f (rs ++ (r ∷ [])) more))

abbrev pub state_of : Form → List (List ℕ) → State
state_of f rs = state_after f [] rs

-- THE GOOD RECORDS: those before the one that decides, and all of them where none does
abbrev pub good_after : Form → List (List ℕ) → List (List ℕ) → List (List ℕ)
good_after f rs [] = []
good_after f rs (r ∷ more) = cond (bad_after f rs r) [] (cond (past_after rs r) [] (r ∷ good_after f (rs ++ (r ∷ [])) more))

abbrev pub good_records : Form → List (List ℕ) → List (List ℕ)
good_records f rs = good_after f [] rs

-- WHAT IS PRINTED: the numbers of the frame rule for the calls of a good trace, none of another
abbrev pub printed_by : Form → Opening → State → List (List ℕ) → List ℕ
printed_by f o Good rs = numbers_of (entries o (map (record_call f) rs))
printed_by f o (Bad n) rs = no_ledger.numbers
printed_by f o (Refused k n) rs = no_ledger.numbers

-- THE CALLS OF RECORDS, as they are offered
abbrev pub offers_of : Form → Opening → List (List ℕ) → List Offer
offers_of f o [] = []
offers_of f o (r ∷ rs) = offer_with (room_for o) (record_ask f r) ∷ offers_of f o rs

-- THE SESSION after these records: it is the one that their calls lead to, and each of them is taken
pub record Read (f : Form) (o : Opening) (rs : List (List ℕ)) (s : Session) : Type 0 where
  pub session : s ≡ after (fresh o) (offers_of f o rs)
  pub calls : taken (fresh o) (offers_of f o rs) ≡ map (record_call f) rs

-- WHAT A CALL ANSWERS that is taken, from the calls before it: a transfer's two parts; nothing to a lost report; what became of the frame that close ended
abbrev pub says_to : Opening → List Call → Ask → Said
says_to o cs (Ask.transfer t) = Said.Transfer (Outcome.Taken (answer_of o cs t))
says_to o cs Ask.lost = Said.Nothing
says_to o cs Ask.close = Said.Close (Ok (ending_of o cs))

-- THE STATE, CASE BY CASE. Good: no record is bad, nothing comes after close, and no more than 4,294,967,295 records are of kind 0 or 1.
pub record AllGood (f : Form) (rs : List (List ℕ)) : Type 0 where
  pub none-bad : (before : List (List ℕ)) (r : List ℕ) (rest : List (List ℕ)) → rs ≡ before ++ (r ∷ rest) → record_bad f r ≡ false
  pub none_after : (before : List (List ℕ)) (r : List ℕ) (rest : List (List ℕ)) → rs ≡ before ++ (r ∷ rest) → closed_in before ≡ false
  pub few : count_in rs ≤ taken_most

-- record N decides: all before it is good, and it is not
pub record Decides (f : Form) (P : List (List ℕ) → List ℕ → Type 0) (rs : List (List ℕ)) (n : ℕ) : Type 0 where
  pub before : List (List ℕ)
  pub this : List ℕ
  pub rest : List (List ℕ)
  pub cut : rs ≡ before ++ (this ∷ rest)
  pub good : AllGood f before
  pub wrong : P before this
  pub number : n ≡ length before + 1

abbrev pub IsBad : Form → List (List ℕ) → List ℕ → Type 0
IsBad f rs r = bad_after f rs r ≡ true

abbrev pub IsPast : Form → List (List ℕ) → List ℕ → Type 0
IsPast f rs r = (bad_after f rs r ≡ false) × (past_after rs r ≡ true)

abbrev pub Stands : Form → List (List ℕ) → State → Type 0
Stands f rs Good = AllGood f rs
Stands f rs (Bad n) = Decides f (IsBad f) rs n
Stands f rs (Refused k n) = (k ≡ 52) × Decides f (IsPast f) rs n

-- THE GOOD RECORDS, CASE BY CASE: all of a good trace; of another those before record N
pub record Before (rs gs : List (List ℕ)) (n : ℕ) : Type 0 where
  pub rest : List (List ℕ)
  pub cut : rs ≡ gs ++ rest
  pub number : n ≡ length gs + 1

abbrev pub GoodOnes : List (List ℕ) → State → List (List ℕ) → Type 0
GoodOnes rs Good gs = gs ≡ rs
GoodOnes rs (Bad n) gs = Before rs gs n
GoodOnes rs (Refused k n) gs = Before rs gs n
