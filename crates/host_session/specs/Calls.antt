-- EACH CALL OF A HOST IN C, on the numbers m and the words w of its session. Words that are a session's: what it is told, and what is left, are the session's own. Others are refused by 54
-- or 50, and nothing changes.
use Rattle.std.specs.Prelude.{ℕ, Bool, true, false, List, [], ◌++◌, length, replicate}
use Rattle.sizes.specs.declared.Opening.{Opening}
use Rattle.session_rules.specs.declared.Session.{Session}
use Rattle.session_rules.specs.declared.Opened.{Opened}
use Rattle.session_rules.specs.declared.Taken.{Taken}
use Rattle.session_rules.specs.Refusals.{ledger_of, record_broken}
use Rattle.session_rules.specs.Session.{open_of, take_of, buffer_of, lost_of, close_of}
use Rattle.short_way.specs.Inner.{whole_of}
use Rattle.session_words.specs.declared.Told.{Told}
use Rattle.session_words.specs.declared.Read.{Read}
use Rattle.session_words.specs.declared.Read.TheVariants.{Broken, Laid}
use Rattle.session_words.specs.Words.{spare_count, words_of}
use Rattle.session_words.specs.Reading.{read_of}
use Rattle.session_words.specs.Told.{refused_told, outcome_told, report_told, closing_told, start_told}

-- what a call leaves: what C is told, the numbers, the words and the buffer
pub record Left : Type 0 where
  pub told : Told
  pub numbers : List ℕ
  pub words : List ℕ
  pub buffer : List ℕ

-- a session's numbers and words
abbrev pub left_by : Told → Session → List ℕ → Left
left_by told s buffer = record { told = told; numbers = s.numbers; words = words_of s.rest; buffer = buffer }

-- refused, and nothing changes
abbrev pub unchanged : ℕ → List ℕ → List ℕ → List ℕ → Left
unchanged k m w buffer = record { told = refused_told k; numbers = m; words = w; buffer = buffer }

-- TAKE
abbrev pub took_by : Taken → List ℕ → Left
took_by x buffer = left_by (outcome_told x.outcome) x.session buffer

abbrev pub take_by : Read → List ℕ → List ℕ → List ℕ → List ℕ → Left
take_by (Broken k) m w buffer t = unchanged k m w buffer
take_by (Laid r) m w buffer t = took_by (take_of (whole_of r m) (length buffer) t) (buffer_of (whole_of r m) buffer t)

unfoldable pub take_in : List ℕ → List ℕ → List ℕ → List ℕ → Left
take_in m w buffer t = take_by (read_of w) m w buffer t

-- LOST: what is said is a number alone
pub record Said : Type 0 where
  pub number : ℕ
  pub numbers : List ℕ
  pub words : List ℕ

abbrev pub said_by : ℕ → Session → Said
said_by k s = record { number = k; numbers = s.numbers; words = words_of s.rest }

abbrev pub lost_by : Read → List ℕ → List ℕ → Said
lost_by (Broken k) m w = record { number = k; numbers = m; words = w }
lost_by (Laid r) m w = said_by (report_told (lost_of (whole_of r m)).report) (lost_of (whole_of r m)).session

unfoldable pub lost_in : List ℕ → List ℕ → Said
lost_in m w = lost_by (read_of w) m w

-- CLOSE
abbrev pub close_by : Read → List ℕ → List ℕ → Left
close_by (Broken k) m w = unchanged k m w []
close_by (Laid r) m w = left_by (closing_told (close_of (whole_of r m)).closing) (close_of (whole_of r m)).session []

unfoldable pub close_in : List ℕ → List ℕ → Left
close_in m w = close_by (read_of w) m w

-- OPEN: the number, and the session's numbers and words, whether refused or not
abbrev pub opened_by : Opened → Said
opened_by x = said_by (start_told x.start) x.session

unfoldable pub open_in : Opening → ℕ → Said
open_in o room = opened_by (open_of o room)

-- THE LEDGER, with the frame under way in its account, in its forty places (document 02, Eight: rest zero); a record that is refused by 50 shows nothing
pub record Shown : Type 0 where
  pub number : ℕ
  pub places : List ℕ

-- its numbers, and nine words of zero
abbrev pub places_of : List ℕ → List ℕ
places_of numbers = numbers ++ replicate spare_count 0

abbrev pub shown_by : Bool → Session → List ℕ → Shown
shown_by true s to = record { number = 50; places = to }
shown_by false s to = record { number = 0; places = places_of (ledger_of s).numbers }

abbrev pub ledger_by : Read → List ℕ → List ℕ → Shown
ledger_by (Broken k) m to = record { number = k; places = to }
ledger_by (Laid r) m to = shown_by (record_broken (whole_of r m)) (whole_of r m) to

unfoldable pub ledger_in : List ℕ → List ℕ → List ℕ → Shown
ledger_in m w to = ledger_by (read_of w) m to
