-- What the contracts cite: one line after the other, with the number as the code counts it. Nothing here needs to be believed: proofs/Words ties it to the words.
use Rattle.session_rules.specs.Options.{Stamp}
use Rattle.std.specs.Prelude.{ℕ, ◌+◌, ◌%◌, ◌^◌, List, [], ◌∷◌, ◌++◌, None}
use Rattle.endings.specs.declared.How.{How}
use Rattle.endings.specs.declared.How.TheVariants.{Delivered, Still, Dropped}
use Rattle.endings.specs.declared.Ending.{Ending}
use Rattle.frame_lines.specs.declared.Show.{Show}
use Rattle.frame_lines.specs.declared.Show.TheVariants.{Nothing, Replay, Frames}
use Rattle.frame_lines.specs.declared.Counted.{Counted}
use Rattle.frame_lines.specs.Lines.{since_of, last_of, replay_text, frame_text}

-- a line has at most so many bytes
abbrev pub line_most : ℕ
line_most = 80

abbrev pub next_number : ℕ → ℕ
next_number n = (n + 1) % 2 ^ 64

abbrev pub replay_by : How → Counted → ℕ → Stamp → List ℕ
replay_by Delivered c len stamp = replay_text c.number len (since_of c.last stamp)
replay_by Still c len stamp = replay_text c.number len None
replay_by (Dropped w) c len stamp = []

abbrev pub counted_by : How → Counted → Stamp → Counted
counted_by Delivered c stamp = record { number = next_number c.number; last = last_of c.last stamp }
counted_by Still c stamp = record { number = next_number c.number; last = c.last }
counted_by (Dropped w) c stamp = c

abbrev pub line_of : Show → Counted → Ending → List ℕ
line_of Nothing c e = []
line_of Replay c e = replay_by e.how c e.len e.stamp
line_of Frames c e = frame_text c.number e

abbrev pub counted_after : Show → Counted → Ending → Counted
counted_after Nothing c e = c
counted_after Replay c e = counted_by e.how c e.stamp
counted_after Frames c e = record { number = next_number c.number; last = c.last }

abbrev pub lines_in : Show → Counted → List Ending → List ℕ
lines_in show c [] = []
lines_in show c (e ∷ es) = line_of show c e ++ lines_in show (counted_after show c e) es

abbrev pub counted_all : Show → Counted → List Ending → Counted
counted_all show c [] = c
counted_all show c (e ∷ es) = counted_all show (counted_after show c e) es
