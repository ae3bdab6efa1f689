-- THE FRAMES THAT ENDED, from the list alone: document 01, "The frame rule, from the list alone", with how each ended, the bytes of its data and its first stamp.
-- Nothing of the session.
use Rattle.session_rules.specs.Options.{Stamp}
use Rattle.std.specs.Prelude.{ℕ, Bool, false, List, [], ◌∷◌, ◌++◌, length, None}
use Rattle.sizes.specs.declared.Opening.{Opening}
use Rattle.session_rules.specs.Entry.{Entry}
use Rattle.session_rules.specs.Call.{Call}
use Rattle.books.specs.Rule.{events, is_open, Seen, readables, runs, frame_of, data_of, first_stamp, nothing}
use Rattle.books.specs.Answer.{frame_entry}
use Rattle.endings.specs.declared.How.{How}
use Rattle.endings.specs.declared.Ending.{Ending}

-- a frame that ended this way, of n bytes and with first stamp s
abbrev pub ending_as : How → ℕ → Stamp → Ending
ending_as w n s = record { how = w; len = n; stamp = s }

-- by what the rule makes of a frame of n bytes with first stamp s: delivered, a still or dropped. One under way has not ended. (The last five entries are no frame's.)
abbrev pub ending_in : Entry → ℕ → Stamp → List Ending
ending_in (Entry.Delivered d) n s = ending_as How.Delivered n s ∷ []
ending_in (Entry.Still d) n s = ending_as How.Still n s ∷ []
ending_in (Entry.Dropped w k) n s = ending_as (How.Dropped w) n s ∷ []
ending_in (Entry.UnderWay k) n s = []
ending_in (Entry.Stray k) n s = []
ending_in (Entry.Unreadable k) n s = []
ending_in (Entry.Headers k) n s = []
ending_in Entry.Lost n s = []
ending_in Entry.Idle n s = []

-- of a run: its frame, with its payload bytes counted and its first stamp
abbrev pub ending_from : Opening → Bool → Bool → List Seen → List Ending
ending_from o open₀ last r = ending_in (frame_entry o open₀ last r) (length (data_of (frame_of o r))) (first_stamp (frame_of o r))

-- of all runs, in order
abbrev pub endings_in : Opening → Bool → List (List Seen) → List Ending
endings_in o open₀ [] = []
endings_in o open₀ (r ∷ rs) = ending_from o open₀ (nothing rs) r ++ endings_in o open₀ rs

-- THE FRAMES THAT ENDED of a list of calls, in order
abbrev pub endings_of : Opening → List Call → List Ending
endings_of o cs = endings_in o (is_open cs) (runs (readables false (events o cs)))

-- WHAT THE RULE'S ENTRIES SAY of the frames that ended, in order: each delivered frame and still with its length and stamp, each dropped frame with its reason and
-- its bytes; nothing of a frame under way, and nothing of a stray. (The last four entries are no frame's.)
abbrev pub entry_says : Entry → List Ending
entry_says (Entry.Delivered d) = ending_as How.Delivered d.len d.stamp ∷ []
entry_says (Entry.Still d) = ending_as How.Still d.len d.stamp ∷ []
entry_says (Entry.Dropped w n) = ending_as (How.Dropped w) n None ∷ []
entry_says (Entry.UnderWay n) = []
entry_says (Entry.Stray n) = []
entry_says (Entry.Unreadable n) = []
entry_says (Entry.Headers n) = []
entry_says Entry.Lost = []
entry_says Entry.Idle = []

abbrev pub entries_say : List Entry → List Ending
entries_say [] = []
entries_say (e ∷ es) = entry_says e ++ entries_say es

-- an ending as far as an entry can say it: of a dropped frame no entry has a stamp
abbrev pub said_by : How → ℕ → Stamp → Ending
said_by How.Delivered n s = ending_as How.Delivered n s
said_by How.Still n s = ending_as How.Still n s
said_by (How.Dropped w) n s = ending_as (How.Dropped w) n None

abbrev pub said : Ending → Ending
said x = said_by x.how x.len x.stamp
