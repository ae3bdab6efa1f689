-- The two places of the frame under way: a ledger and a session with any numbers there.
use Rattle.std.specs.Prelude.{ℕ, set}
use Rattle.session_rules.specs.declared.Ledger.{Ledger}
use Rattle.session_rules.specs.Accounts.{count_at, bytes_at, under_at}
use Rattle.session_rules.specs.declared.Session.{Session}
use Rattle.session_rules.specs.declared.Taken.{Taken}
use Rattle.session_rules.specs.declared.Reported.{Reported}
use Rattle.session_rules.specs.declared.Closed.{Closed}
use Rattle.session_rules.specs.Refusals.{posted_of}
use Rattle.session.specs.Inner.{whole_of}

abbrev pub under_is : ℕ → ℕ → Ledger → Ledger
under_is c b l = record { numbers = set (set l.numbers (count_at under_at) c) (bytes_at under_at) b; last = l.last }

abbrev pub dead : ℕ → ℕ → Session → Session
dead c b s = whole_of s.rest (under_is c b (posted_of s)).numbers

-- the same of what a call leaves and answers
abbrev pub dead_taken : ℕ → ℕ → Taken → Taken
dead_taken c b x = record { session = dead c b x.session; outcome = x.outcome }

abbrev pub dead_reported : ℕ → ℕ → Reported → Reported
dead_reported c b x = record { session = dead c b x.session; report = x.report }

abbrev pub dead_closed : ℕ → ℕ → Closed → Closed
dead_closed c b x = record { session = dead c b x.session; closing = x.closing }
