-- What the contracts of the short way cite: the session record of its two parts, of which the numbers are lent. Nothing here needs to be believed.
use Rattle.session_rules.specs.Options.{Stamp}
use Rattle.std.specs.Prelude.{ℕ, ◌+◌, ◌<◌, ◌≡◌, true, false, List, length}
use Rattle.rules.specs.Numbered.{first_row}
use Rattle.session_rules.specs.declared.Run.{Run}
use Rattle.session_rules.specs.declared.Phase.TheVariants.{Under}
use Rattle.session_rules.specs.declared.Track.{Track}
use Rattle.session_rules.specs.declared.Fate.{Fate}
use Rattle.session_rules.specs.declared.Outcome.{Outcome}
use Rattle.session_rules.specs.declared.Rest.{Rest}
use Rattle.session_rules.specs.declared.Session.{Session}
use Rattle.session_rules.specs.declared.Taken.{Taken}
use Rattle.session_rules.specs.Accounts.{number_count}
use Rattle.session_rules.specs.Refusals.{taken_most, record_broken, take_rows}
use Rattle.session_rules.specs.Session.{plainly}
use Rattle.going_on.specs.Bytes.{bytes_go_on}

abbrev pub whole_of : Rest → List ℕ → Session
whole_of r numbers = record { rest = r; numbers = numbers }

-- one more taken, with this track and last stamp
abbrev pub counted_rest : Rest → Track → Stamp → Rest
counted_rest r t last = record { opening = r.opening; closed = r.closed; taken = r.taken + 1; track = t; last = last }

-- the answer of the short way, which is always the same: nothing was ended, and the transfer is kept
abbrev pub kept_with : Rest → List ℕ → Taken
kept_with r numbers = record { session = whole_of r numbers; outcome = Outcome.Taken (plainly Fate.Kept) }

-- what a session that is not refused by 50, 53 or 52 gives: no sum can wrap, and the data goes within the frame
pub record Ready (s : Session) : Type 0 where
  pub sound : record_broken s ≡ false
  pub more : s.rest.taken < taken_most
  pub places : length s.numbers ≡ number_count

-- what the short way of take is for: nothing refuses the call, and the transfer goes on with the frame r under way
pub record GoesOn (s : Session) (r : Run) (room : ℕ) (t : List ℕ) : Type 0 where
  pub places : length s.numbers ≡ number_count
  pub free : first_row (take_rows s room (length t)) ≡ 0
  pub under : s.rest.track.phase ≡ Under r
  pub on : bytes_go_on s.rest.opening r t ≡ true
