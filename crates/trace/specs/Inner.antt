-- What the inner contracts cite. Nothing here needs to be believed.
use Rattle.std.specs.Prelude.{ℕ, zero, suc, ◌+◌, List, Bool, true, false}
use Rattle.session_rules.specs.declared.Rest.{Rest}
use Rattle.session.specs.Inner.{whole_of}
use Rattle.trace.specs.declared.State.{State}
use Rattle.trace.specs.declared.State.TheVariants.{Good, Bad, Refused}
use Rattle.trace.specs.declared.Trace.{Trace}
use Rattle.trace.specs.declared.Said.{Said}
use Rattle.trace.specs.declared.Going.{Going}
use Rattle.trace.specs.Trace.{closes, good_of}

-- A TRACE IN TWO PARTS: its ledger's numbers, which are lent, and the rest
abbrev pub going_with : Going → List ℕ → Trace
going_with g numbers = record { session = whole_of g.rest numbers; state = g.state }

abbrev pub good_with : Rest → List ℕ → Trace
good_with r numbers = good_of (whole_of r numbers)

abbrev pub number_rest : Rest → ℕ
number_rest r = r.taken + closes r.closed

-- a refused call leaves the rest as it was
abbrev pub answered_by : ℕ → Rest → Said → Going
answered_by zero r x = record { rest = r; state = Good; said = x }
answered_by (suc k) r x = record { rest = r; state = Refused (suc k) (number_rest r); said = x }

-- a bad or refused record decides a trace
abbrev pub is_decided : State → Bool
is_decided Good = false
is_decided (Bad n) = true
is_decided (Refused k n) = true
