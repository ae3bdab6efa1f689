-- The ledger's numbers, in the order of print, and what each entry makes of them.
use Rattle.session_rules.specs.Options.{Ended, Stamp}
use Rattle.std.specs.Prelude.{ℕ, ◌+◌, get_or, set, replicate, None, Some}
use Rattle.session_rules.specs.declared.Fate.{Fate}
use Rattle.session_rules.specs.declared.Answer.{Answer}
use Rattle.session_rules.specs.declared.Phase.{Phase}
use Rattle.session_rules.specs.Track.{under_count, under_bytes}
use Rattle.session_rules.specs.declared.Account.{Account}
use Rattle.session_rules.specs.Entry.{Entry}
use Rattle.session_rules.specs.declared.Step.{Step}
use Rattle.session_rules.specs.declared.Step.TheVariants.{Forward, Backward}
use Rattle.session_rules.specs.declared.Ledger.{Ledger}
use Rattle.session_rules.specs.Accounts.{place_of, account_for, count_at, bytes_at, lost_at, idle_at, ticks_at, backward_at, untimed_at, number_count, under_at}
use Rattle.session_rules.specs.Step.{step_of}

abbrev pub count_of : Ledger → ℕ → ℕ
count_of l k = get_or l.numbers (count_at k) 0

abbrev pub bytes_of : Ledger → ℕ → ℕ
bytes_of l k = get_or l.numbers (bytes_at k) 0

-- a fresh ledger is all zero
abbrev pub no_ledger : Ledger
no_ledger = record { numbers = replicate number_count 0; last = None }

-- n more at a place
unfoldable pub plus_of : Ledger → ℕ → ℕ → Ledger
plus_of l i n = record { numbers = set l.numbers i (get_or l.numbers i 0 + n); last = l.last }

-- one more in an account, of n bytes
abbrev pub entered_of : Ledger → Account → ℕ → Ledger
entered_of l a n = plus_of (plus_of l (count_at (place_of a)) 1) (bytes_at (place_of a)) n

-- forward adds to the ticks, backward is counted
abbrev pub stepped_of : Ledger → Step → Ledger
stepped_of l (Forward n) = plus_of l ticks_at n
stepped_of l (Backward n) = plus_of l backward_at 1

abbrev pub last_is : Ledger → Stamp → Ledger
last_is l s = record { numbers = l.numbers; last = s }

-- a delivered frame with no stamp is untimed and passed over; one with a stamp ends a step and starts the next
abbrev pub timed_by : Stamp → Ledger → Stamp → Ledger
timed_by last l None = plus_of l untimed_at 1
timed_by None l (Some b) = last_is l (Some b)
timed_by (Some a) l (Some b) = last_is (stepped_of l (step_of a b)) (Some b)

unfoldable pub timed_of : Ledger → Stamp → Ledger
timed_of l s = timed_by l.last l s

-- an entry; a still has its account and nothing to do with the time
unfoldable pub post_of : Ledger → Entry → Ledger
post_of l (Entry.Delivered d) = timed_of (entered_of l Account.Delivered d.len) d.stamp
post_of l (Entry.Still d) = entered_of l Account.Still d.len
post_of l (Entry.Dropped why n) = entered_of l (account_for why) n
post_of l (Entry.UnderWay n) = entered_of l Account.UnderWay n
post_of l (Entry.Stray n) = entered_of l Account.Stray n
post_of l (Entry.Unreadable n) = entered_of l Account.Unreadable n
post_of l (Entry.Headers n) = entered_of l Account.Headers n
post_of l Entry.Lost = plus_of l lost_at 1
post_of l Entry.Idle = plus_of l idle_at 1

-- an answer: the frame that was ended, with its bytes, and then the transfer's fate, with its own
abbrev pub ended_of : Ledger → Ended → ℕ → Ledger
ended_of l None gone = l
ended_of l (Some why) gone = post_of l (Entry.Dropped why gone)

abbrev pub fated_of : Ledger → Fate → ℕ → Ledger
fated_of l Fate.Idle n = post_of l Entry.Idle
fated_of l Fate.Kept n = l
fated_of l Fate.Stray n = post_of l (Entry.Stray n)
fated_of l (Fate.Delivered d) n = post_of l (Entry.Delivered d)
fated_of l (Fate.Still d) n = post_of l (Entry.Still d)
fated_of l (Fate.Dropped why) n = post_of l (Entry.Dropped why n)
fated_of l (Fate.Unreadable k) n = post_of l (Entry.Unreadable n)

abbrev pub answered_of : Ledger → Answer → ℕ → ℕ → Ledger
answered_of l a gone n = fated_of (ended_of l a.ended gone) a.fate n

-- the ledger with the frame under way in its account
unfoldable pub shown_of : Ledger → Phase → Ledger
shown_of l p =
    record {
      numbers = set (set l.numbers (count_at under_at) (under_count p)) (bytes_at under_at) (under_bytes p);
      last = l.last;
    }
