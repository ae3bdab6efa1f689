-- Document 02, "Thirteen": "one line per delivered frame or still, one space between: number from 1, length, and signed step from the last stamped delivered frame, or a dash where there is
-- none and for stills". And ours: a line for every frame that ended, with its number, its fate, its length and its stamp or a dash.
use Rattle.session_rules.specs.declared.Step.{Step}
use Rattle.session_rules.specs.Options.{Stamp}
use Rattle.std.specs.Prelude.{ℕ, ◌+◌, List, [], ◌∷◌, ◌++◌, None, Option, Some}
use Rattle.session_rules.specs.declared.Reason.TheVariants.{Gap, Error, Clock, Mixed, Long, Cut, Empty}
use Rattle.session_rules.specs.declared.Step.TheVariants.{Forward, Backward}
use Rattle.session_rules.specs.Step.{step_of}
use Rattle.text.specs.Decimal.{decimal}
use Rattle.text.specs.Text.{bytes, number}
use Rattle.endings.specs.declared.How.{How}
use Rattle.endings.specs.declared.How.TheVariants.{Delivered, Still, Dropped}
use Rattle.endings.specs.declared.Ending.{Ending}

-- the step from the last stamped delivered frame, where there is one and this frame has a stamp
abbrev pub since_of : Stamp → Stamp → Option Step
since_of last None = None
since_of None (Some b) = None
since_of (Some a) (Some b) = Some (step_of a b)

-- a frame with no stamp does not move it
abbrev pub last_of : Stamp → Stamp → Stamp
last_of last None = last
last_of last (Some b) = Some b

-- each after a space: a dash, or the signed number
abbrev pub since_text : Option Step → List ℕ
since_text None = bytes " -"
since_text (Some (Forward n)) = number n
since_text (Some (Backward n)) = bytes " -" ++ decimal n

abbrev pub stamp_text : Stamp → List ℕ
stamp_text None = bytes " -"
stamp_text (Some n) = number n

abbrev pub name_of : How → List ℕ
name_of Delivered = bytes " delivered"
name_of Still = bytes " still"
name_of (Dropped Gap) = bytes " gap"
name_of (Dropped Error) = bytes " error"
name_of (Dropped Clock) = bytes " clock"
name_of (Dropped Mixed) = bytes " mixed"
name_of (Dropped Long) = bytes " long"
name_of (Dropped Cut) = bytes " cut"
name_of (Dropped Empty) = bytes " empty"

abbrev pub replay_text : ℕ → ℕ → Option Step → List ℕ
replay_text n len s = decimal n ++ (number len ++ (since_text s ++ bytes "\n"))

abbrev pub frame_text : ℕ → Ending → List ℕ
frame_text n e = decimal n ++ (name_of e.how ++ (number e.len ++ (stamp_text e.stamp ++ bytes "\n")))

-- THE LINES OF A REPLAY, from line n on, where `last` is the stamp of the last delivered frame of film that has one. A still does not move it.
abbrev pub replay_how : How → ℕ → ℕ → Stamp → Stamp → (ℕ → Stamp → List ℕ) → List ℕ
replay_how Delivered len n last stamp more = replay_text n len (since_of last stamp) ++ more (n + 1) (last_of last stamp)
replay_how Still len n last stamp more = replay_text n len None ++ more (n + 1) last
replay_how (Dropped w) len n last stamp more = more n last

abbrev pub replay_lines : ℕ → Stamp → List Ending → List ℕ
replay_lines n last [] = []
replay_lines n last (e ∷ es) = replay_how e.how e.len n last e.stamp (λ m s. replay_lines m s es)

-- THE LINES OF ALL FRAMES, from line n on
abbrev pub frame_lines : ℕ → List Ending → List ℕ
frame_lines n [] = []
frame_lines n (e ∷ es) = frame_text n e ++ frame_lines (n + 1) es
