-- What each branch of the code says of the definitions.
use Rattle.std.specs.Prelude.{Err, Ok}
use Rattle.session_rules.specs.Options.{Ended, Closing}
use Prim.Native.Nat.{ℕ, zero, suc, ◌+◌}
use mathlib.Core.Path.{◌≡◌, refl, sym, ◌∙◌, ap, subst}
use mathlib.Core.Bool.{Bool, true, false, ◌||◌}
use mathlib.Core.List.{List}
use native.Mathlib.Omega.{arith}
use lib.ListN.{length, take, drop, length-replicate}
use Rattle.rules.specs.Numbered.{first_row}
use Rattle.sizes.specs.declared.Opening.{Opening}
use Rattle.session_rules.specs.declared.Ledger.{Ledger}
use Rattle.session_rules.specs.Ledger.{no_ledger}
use Rattle.session_rules.specs.declared.Answer.{Answer}
use Rattle.session_rules.specs.declared.HandOut.{HandOut}
use Rattle.session_rules.specs.declared.Session.{Session}
use Rattle.session_rules.specs.declared.Rest.{Rest}
use Rattle.session.specs.declared.RestTaken.{RestTaken}
use Rattle.session.specs.declared.RestReported.{RestReported}
use Rattle.session.specs.declared.RestClosed.{RestClosed}
use Rattle.session_rules.specs.declared.Taken.{Taken}
use Rattle.session_rules.specs.declared.Outcome.{Outcome}
use Rattle.session_rules.specs.declared.Reported.{Reported}
use Rattle.session_rules.specs.declared.Closed.{Closed}
use Rattle.session_rules.specs.declared.Opened.{Opened}
use Rattle.session_rules.specs.Refusals.{take_rows, lost_rows, close_rows, ledger_of}
use Rattle.session_rules.specs.Session.{open_of, take_by, take_of, lost_by, lost_of, close_by, close_of}
use Rattle.session_rules.specs.WhenRefused.{Met}
use Rattle.session_rules.proofs.Refused.{met, not-both}
use Rattle.records.specs.declared.Form.{Form}
use Rattle.records.specs.Form.{head_of}
use Rattle.records.specs.Record.{kind_at, length_at, record_bad}
use Rattle.trace.specs.Record.{ask_by, record_ask}
use Rattle.trace.specs.Trace.{begun_by, begin_of, room_for, number_of, offered, read_call, said_call, read_by, said_by, step_of, said_of, print_by, report_of}
use Rattle.trace.specs.declared.State.{State}
use Rattle.trace.specs.declared.State.TheVariants.{Good, Bad, Refused}
use Rattle.trace.specs.declared.Trace.{Trace}
use Rattle.trace.specs.declared.Begun.{Begun}
use Rattle.trace.specs.declared.Said.{Said}
use Rattle.trace.specs.declared.Going.{Going}
use Rattle.trace.specs.declared.Printed.{Printed}
use Rattle.session.specs.Inner.{whole_of, taken_with, reported_with, closed_with}
use Rattle.session_rules.specs.Call.{Ask}
use Rattle.trace.specs.Inner.{going_with, number_rest, answered_by}

-- ---- the next record's number
pub number-closed : (r : Rest) → r.closed ≡ true → r.taken + 2 ≡ number_rest r
number-closed r e = rw e

pub number-open : (r : Rest) → r.closed ≡ false → r.taken + 1 ≡ number_rest r
number-open r e = rw e

-- ---- refused, or taken
pub answered-taken : (k : ℕ) (r : Rest) (x : Said) → k ≡ 0 → ◌≡◌ {A = Going} (record { rest = r; state = Good; said = x }) (answered_by k r x)
answered-taken k r x e = rw e

pub answered-refused : (k n : ℕ) (r : Rest) (x : Said) → (k ≡ 0 → ⊥) → n ≡ number_rest r
    → ◌≡◌ {A = Going} (record { rest = r; state = Refused k n; said = x }) (answered_by k r x)
answered-refused zero n r x h e = absurd (h refl)
answered-refused (suc k) n r x h e = rw e

-- a call that is answered with n, and leaves the session as it was where it is refused
module _ (k : ℕ) (r : Rest) (l : List ℕ) (x : Said) (g : Going) (f : g ≡ answered_by k r x) where
  as-offered : (s : Session) (n : ℕ) → k ≡ n → ((j : ℕ) → n ≡ suc j → whole_of r l ≡ s) → going_with g l ≡ offered n s (whole_of r l)
  as-offered s n e h = ap (λ (y : Going). going_with y l) f ∙ ap (λ (i : ℕ). going_with (answered_by i r x) l) e ∙ go n h
    where
      go : (i : ℕ) → ((j : ℕ) → i ≡ suc j → whole_of r l ≡ s) → going_with (answered_by i r x) l ≡ offered i s (whole_of r l)
      go zero h = refl
      go (suc j) h = ap (λ (z : Session). record { session = z; state = Refused (suc j) (number_of z) }) (h j refl)

  as_said : g.said ≡ x
  as_said = ap (λ (y : Going). y.said) f ∙ go k
    where
      go : (i : ℕ) → (answered_by i r x).said ≡ x
      go zero = refl
      go (suc i) = refl

-- what a call leads to, and what it answers
abbrev Answered : Session → Ask → Trace → Said → Type 0
Answered s c x y = (x ≡ read_call s c) × (y ≡ said_call s c)

-- ---- a transfer
same-refused : (j k : ℕ) → Outcome.Refused j ≡ Outcome.Refused k → k ≡ j
same-refused j k e = cc

take-refused : (s : Session) (t : List ℕ) (n k : ℕ) → (take_by n s t).outcome ≡ Outcome.Refused k → k ≡ n
take-refused s t zero k e = absurd (not-both _ k (met s t) e)
take-refused s t (suc n) k e = same-refused (suc n) k e

take-met : (s : Session) (t : List ℕ) (n : ℕ) → Met (take_by n s t).outcome → 0 ≡ n
take-met s t zero e = refl
take-met s t (suc n) e = absurd e

module _ (s : Session) (t : List ℕ) (x : RestTaken) (l : List ℕ) (e : taken_with x l ≡ take_of s s.rest.opening.frame t) (g : Going) where
  abbrev room : ℕ
  room = length (room_for s.rest.opening)

  lent : taken_with x l ≡ take_of s room t
  lent = e ∙ ap (λ (n : ℕ). take_of s n t) (sym (length-replicate {0} {A = ℕ} s.rest.opening.frame 0))

  abbrev row : ℕ
  row = first_row (take_rows s room (length t))

  taken-same : (j : ℕ) → row ≡ suc j → whole_of x.rest l ≡ s
  unfolding take_of
  taken-same j q = ap (λ (y : Taken). y.session) lent ∙ ap (λ (i : ℕ). (take_by i s t).session) q

  by_row : (k : ℕ) → k ≡ row → g ≡ answered_by k x.rest (Said.Transfer x.outcome) → Answered s (Ask.transfer t) (going_with g l) g.said
  by_row k q f = (
    as-offered k x.rest l (Said.Transfer x.outcome) g f s row q taken-same ∙ ap (λ (y : Taken). offered row s y.session) lent,
    as_said k x.rest l (Said.Transfer x.outcome) g f ∙ ap (λ (y : Taken). Said.Transfer y.outcome) lent,
  )

  pub transfer-refused : (k : ℕ) → x.outcome ≡ Outcome.Refused k → g ≡ answered_by k x.rest (Said.Transfer (Outcome.Refused k))
      → Answered s (Ask.transfer t) (going_with g l) g.said
  unfolding take_of
  transfer-refused k q f =
      by_row k (take-refused s t row k (ap (λ (y : Taken). y.outcome) (sym lent) ∙ q)) (f ∙ ap (λ (y : Outcome). answered_by k x.rest (Said.Transfer y)) (sym q))

  transfer-met : Met x.outcome → g ≡ answered_by 0 x.rest (Said.Transfer x.outcome) → Answered s (Ask.transfer t) (going_with g l) g.said
  unfolding take_of
  transfer-met q f = by_row 0 (take-met s t row (subst Met (ap (λ (y : Taken). y.outcome) lent) q)) f

  pub transfer-taken : (a : Answer) → x.outcome ≡ Outcome.Taken a → g ≡ answered_by 0 x.rest (Said.Transfer x.outcome)
      → Answered s (Ask.transfer t) (going_with g l) g.said
  transfer-taken a q f = transfer-met (rw q tt) f

  pub transfer-handed : (a : HandOut) → x.outcome ≡ Outcome.Handed a → g ≡ answered_by 0 x.rest (Said.Transfer x.outcome)
      → Answered s (Ask.transfer t) (going_with g l) g.said
  transfer-handed a q f = transfer-met (rw q tt) f

-- ---- a lost report
lost-refused₀ : (s : Session) (n k : ℕ) → (lost_by n s).report ≡ Err k → k ≡ n
lost-refused₀ s zero k e = absurd (let z : ◌≡◌ {A = ℕ} 0 1 = cc in omega arith)
lost-refused₀ s (suc n) k e = cc

lost-noted₀ : (s : Session) (n : ℕ) → (lost_by n s).report ≡ Ok tt → 0 ≡ n
lost-noted₀ s zero e = refl
lost-noted₀ s (suc n) e = absurd (let z : ◌≡◌ {A = ℕ} 0 1 = cc in omega arith)

module _ (s : Session) (x : RestReported) (l : List ℕ) (e : reported_with x l ≡ lost_of s) (g : Going) where
  abbrev lost-row : ℕ
  lost-row = first_row (lost_rows s)

  reported-same : (j : ℕ) → lost-row ≡ suc j → whole_of x.rest l ≡ s
  unfolding lost_of
  reported-same j q = ap (λ (y : Reported). y.session) e ∙ ap (λ (i : ℕ). (lost_by i s).session) q

  by-lost-row : (k : ℕ) → k ≡ lost-row → g ≡ answered_by k x.rest Said.Nothing → Answered s Ask.lost (going_with g l) g.said
  by-lost-row k q f = (
    as-offered k x.rest l Said.Nothing g f s lost-row q reported-same ∙ ap (λ (y : Reported). offered lost-row s y.session) e,
    as_said k x.rest l Said.Nothing g f,
  )

  pub lost-refused : (k : ℕ) → x.report ≡ Err k → g ≡ answered_by k x.rest Said.Nothing → Answered s Ask.lost (going_with g l) g.said
  unfolding lost_of
  lost-refused k q f = by-lost-row k (lost-refused₀ s lost-row k (ap (λ (y : Reported). y.report) (sym e) ∙ q)) f

  pub lost-noted : x.report ≡ Ok tt → g ≡ answered_by 0 x.rest Said.Nothing → Answered s Ask.lost (going_with g l) g.said
  unfolding lost_of
  lost-noted q f = by-lost-row 0 (lost-noted₀ s lost-row (ap (λ (y : Reported). y.report) (sym e) ∙ q)) f

-- ---- close
close-refused₀ : (s : Session) (n k : ℕ) → (close_by n s).closing ≡ Err k → k ≡ n
close-refused₀ s zero k e = absurd (let z : ◌≡◌ {A = ℕ} 0 1 = cc in omega arith)
close-refused₀ s (suc n) k e = cc

close-closed₀ : (s : Session) (n : ℕ) (a : Ended) → (close_by n s).closing ≡ Ok a → 0 ≡ n
close-closed₀ s zero a e = refl
close-closed₀ s (suc n) a e = absurd (let z : ◌≡◌ {A = ℕ} 0 1 = cc in omega arith)

module _ (s : Session) (x : RestClosed) (l : List ℕ) (e : closed_with x l ≡ close_of s) (g : Going) where
  abbrev close_row : ℕ
  close_row = first_row (close_rows s)

  closed_same : (j : ℕ) → close_row ≡ suc j → whole_of x.rest l ≡ s
  unfolding close_of
  closed_same j q = ap (λ (y : Closed). y.session) e ∙ ap (λ (i : ℕ). (close_by i s).session) q

  by-close-row : (k : ℕ) → k ≡ close_row → g ≡ answered_by k x.rest (Said.Close x.closing) → Answered s Ask.close (going_with g l) g.said
  by-close-row k q f = (
    as-offered k x.rest l (Said.Close x.closing) g f s close_row q closed_same ∙ ap (λ (y : Closed). offered close_row s y.session) e,
    as_said k x.rest l (Said.Close x.closing) g f ∙ ap (λ (y : Closed). Said.Close y.closing) e,
  )

  pub close-refused : (k : ℕ) → x.closing ≡ Err k → g ≡ answered_by k x.rest (Said.Close (Err k))
      → Answered s Ask.close (going_with g l) g.said
  unfolding close_of
  close-refused k q f =
      by-close-row k (close-refused₀ s close_row k (ap (λ (y : Closed). y.closing) (sym e) ∙ q)) (f ∙ ap (λ (y : Closing). answered_by k x.rest (Said.Close y)) (sym q))

  pub close-closed : (a : Ended) → x.closing ≡ Ok a → g ≡ answered_by 0 x.rest (Said.Close x.closing) → Answered s Ask.close (going_with g l) g.said
  unfolding close_of
  close-closed a q f = by-close-row 0 (close-closed₀ s close_row a (ap (λ (y : Closed). y.closing) (sym e) ∙ q)) f

-- ---- a good record's call
module _ (f : Form) (s : Session) (r : List ℕ) where
  as_call : (c : Ask) (x : Trace) (y : Said) → record_ask f r ≡ c → Answered s c x y → Answered s (record_ask f r) x y
  as_call c x y e u = (u.0 ∙ sym (ap (read_call s) e), u.1 ∙ sym (ap (said_call s) e))

  pub call-transfer : (h n m : ℕ) (x : Trace) (y : Said) → kind_at r ≡ 0 → h ≡ head_of f → n ≡ length_at f r → m ≡ n
      → Answered s (Ask.transfer (take m (drop h r))) x y → Answered s (record_ask f r) x y
  call-transfer h n m x y k d e q u =
      as_call (Ask.transfer (take m (drop h r))) x y
      (ap (λ (i : ℕ). ask_by f i r) k ∙ ap (λ (i : ℕ). Ask.transfer (take i (drop (head_of f) r))) (sym (q ∙ e)) ∙ ap (λ (i : ℕ). Ask.transfer (take m (drop i r))) (sym d)) u

  pub call-lost : (x : Trace) (y : Said) → kind_at r ≡ 1 → Answered s Ask.lost x y → Answered s (record_ask f r) x y
  call-lost x y k u = as_call Ask.lost x y (ap (λ (i : ℕ). ask_by f i r) k) u

  closes_by : (i : ℕ) → (i ≡ 0 → ⊥) → (i ≡ 1 → ⊥) → ask_by f i r ≡ Ask.close
  closes_by zero a b = absurd (a refl)
  closes_by (suc zero) a b = absurd (b refl)
  closes_by (suc (suc i)) a b = refl

  pub call-close : (x : Trace) (y : Said) → (kind_at r ≡ 0 → ⊥) → (kind_at r ≡ 1 → ⊥) → Answered s Ask.close x y → Answered s (record_ask f r) x y
  call-close x y a b u = as_call Ask.close x y (closes_by (kind_at r) a b) u

-- ---- a step
module _ (f : Form) (s : Session) (r : List ℕ) where
  -- what a record of a good trace leads to, and what its call answers
  abbrev Stepped : Trace → Said → Type 0
  Stepped x y = (x ≡ step_of f (record { session = s; state = Good }) r) × (y ≡ said_of f s r)

  read-law : (x : Bool) → (s.rest.closed || record_bad f r) ≡ x → step_of f (record { session = s; state = Good }) r ≡ read_by x s (record_ask f r)
  unfolding step_of
  read-law x q = ap (λ (z : Bool). read_by z s (record_ask f r)) q

  said-law : (x : Bool) → (s.rest.closed || record_bad f r) ≡ x → said_of f s r ≡ said_by x s (record_ask f r)
  unfolding said_of
  said-law x q = ap (λ (z : Bool). said_by z s (record_ask f r)) q

  worst : (n : ℕ) → (s.rest.closed || record_bad f r) ≡ true → n ≡ number_of s → Stepped (record { session = s; state = Bad n }) Said.Nothing
  worst n q m = (ap (λ (k : ℕ). record { session = s; state = Bad k }) m ∙ sym (read-law true q), sym (said-law true q))

  pub step-closed : (n : ℕ) → s.rest.closed ≡ true → n ≡ number_of s → Stepped (record { session = s; state = Bad n }) Said.Nothing
  step-closed n c m = worst n (ap (λ (z : Bool). z || record_bad f r) c) m

  pub step-worst : (n : ℕ) (x : Bool) → s.rest.closed ≡ false → x ≡ record_bad f r → x ≡ true → n ≡ number_of s → Stepped (record { session = s; state = Bad n }) Said.Nothing
  step-worst n x c d g m = worst n (ap (λ (z : Bool). z || record_bad f r) c ∙ (sym d ∙ g)) m

  pub step-called : (x : Bool) (y : Trace) (z : Said) → s.rest.closed ≡ false → x ≡ record_bad f r → x ≡ false → Answered s (record_ask f r) y z → Stepped y z
  step-called x y z c d g u =
      let q : (s.rest.closed || record_bad f r) ≡ false = ap (λ (w : Bool). w || record_bad f r) c ∙ (sym d ∙ g) in
      (u.0 ∙ sym (read-law false q), u.1 ∙ sym (said-law false q))

-- ---- the end
module _ (t : Trace) (l : Ledger) where
  ended : (z : State) → t.state ≡ z → ((print_by z t.session).state ≡ z) → l ≡ (print_by z t.session).ledger → ◌≡◌ {A = Printed} (record { state = t.state; ledger = l }) (report_of t)
  unfolding report_of
  ended z e f q = (λ i. record { state = (e ∙ sym f) i; ledger = q i }) ∙ sym (ap (λ (w : State). print_by w t.session) e)

  pub finish-good : t.state ≡ Good → l ≡ ledger_of t.session → ◌≡◌ {A = Printed} (record { state = t.state; ledger = l }) (report_of t)
  finish-good e q = ended Good e refl q

  pub finish-bad : (n : ℕ) → t.state ≡ Bad n → l ≡ no_ledger → ◌≡◌ {A = Printed} (record { state = t.state; ledger = l }) (report_of t)
  finish-bad n e q = ended (Bad n) e refl q

  pub finish-refused : (k n : ℕ) → t.state ≡ Refused k n → l ≡ no_ledger → ◌≡◌ {A = Printed} (record { state = t.state; ledger = l }) (report_of t)
  finish-refused k n e q = ended (Refused k n) e refl q

-- ---- the beginning
pub begins : (o : Opening) (x : Opened) (n : ℕ) → x ≡ open_of o n → n ≡ o.frame
    → ◌≡◌ {A = Begun} (record { trace = record { session = x.session; state = Good }; start = x.start }) (begin_of o)
begins o x n e q = ap begun_by e ∙ ap (λ (m : ℕ). begun_by (open_of o m)) q
