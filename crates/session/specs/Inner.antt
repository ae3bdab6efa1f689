-- What the inner contracts cite: the calls on the record's two parts, of which the numbers are lent. Nothing here needs to be believed.
use Rattle.std.specs.Prelude.{ℕ, ◌+◌, ◌≤◌, ◌≡◌, List, length, drop}
use Rattle.std.proofs.Math.Seq.{paste}
use Rattle.rules.specs.Numbered.{first_row}
use Rattle.session_rules.specs.declared.Fate.{Fate}
use Rattle.session_rules.specs.declared.Outcome.{Outcome}
use Rattle.session_rules.specs.declared.Session.{Session}
use Rattle.session_rules.specs.declared.Rest.{Rest}
use Rattle.session.specs.declared.RestTaken.{RestTaken}
use Rattle.session.specs.declared.Posted.{Posted}
use Rattle.session.specs.declared.RestReported.{RestReported}
use Rattle.session.specs.declared.RestClosed.{RestClosed}
use Rattle.session_rules.specs.declared.Taken.{Taken}
use Rattle.session_rules.specs.declared.Reported.{Reported}
use Rattle.session_rules.specs.declared.Closed.{Closed}
use Rattle.session_rules.specs.Refusals.{take_rows}
use Rattle.session_rules.specs.Session.{plainly, buffer_by, buffer_of}
pub use Rattle.short_way.specs.Inner.{whole_of, kept_with, Ready, GoesOn}

abbrev pub taken_with : RestTaken → List ℕ → Taken
taken_with x numbers = record { session = whole_of x.rest numbers; outcome = x.outcome }

abbrev pub reported_with : RestReported → List ℕ → Reported
reported_with x numbers = record { session = whole_of x.rest numbers; report = x.report }

abbrev pub closed_with : RestClosed → List ℕ → Closed
closed_with x numbers = record { session = whole_of x.rest numbers; closing = x.closing }

-- what is lent has that room, or no bytes
abbrev pub Lent : ℕ → List ℕ → Type 0
Lent room buffer = (length buffer ≡ 0 → ⊥) → length buffer ≡ room

-- and so room for a frame, if it has bytes
abbrev pub HasRoom : ℕ → List ℕ → Type 0
HasRoom frame buffer = (length buffer ≡ 0 → ⊥) → frame ≤ length buffer

-- what a call with that room leaves in a buffer of that length; one of no bytes has nothing to say
abbrev pub Written : Session → ℕ → List ℕ → List ℕ → List ℕ → Type 0
Written s room buffer t after = length buffer ≡ room → after ≡ buffer_of s buffer t

-- what a call with that room makes of a buffer
abbrev pub buffer_for : Session → ℕ → List ℕ → List ℕ → List ℕ
buffer_for s room buffer t = buffer_by (first_row (take_rows s room (length t))) s buffer t

-- the short way's answer
abbrev pub kept_of : Rest → RestTaken
kept_of r = record { rest = r; outcome = Outcome.Taken (plainly Fate.Kept) }

abbrev pub unwritten_of : RestTaken → Posted
unwritten_of x = record { taken = x; at = 0; from = 0; len = 0 }

-- what is made of any buffer is to write what x says of the transfer t, within the room; and x says no more than t has
pub record Goes (made : List ℕ → List ℕ) (room : ℕ) (t : List ℕ) (x : Posted) : Type 0 where
  pub inside : x.at + x.len ≤ room
  pub enough : x.from + x.len ≤ length t
  pub writes : (buffer : List ℕ) → made buffer ≡ paste buffer x.at (drop x.from t) x.len
