-- WHAT IS PRINTED OF THE FRAMES of a list of calls, from the frame rule alone: nothing; a line for each that was delivered (document 02, "Thirteen"); or a line for each that ended (ours).
use Rattle.std.specs.Prelude.{List, [], ℕ, None}
use Rattle.sizes.specs.declared.Opening.{Opening}
use Rattle.session_rules.specs.Call.{Call}
use Rattle.endings.specs.declared.Ending.{Ending}
use Rattle.endings.specs.Endings.{endings_of}
use Rattle.frame_lines.specs.declared.Show.{Show}
use Rattle.frame_lines.specs.declared.Show.TheVariants.{Nothing, Replay, Frames}
use Rattle.frame_lines.specs.Lines.{replay_lines, frame_lines}

-- the first line has number 1, and no frame was delivered before it
abbrev pub shown : Show → List Ending → List ℕ
shown Nothing es = []
shown Replay es = replay_lines 1 None es
shown Frames es = frame_lines 1 es

abbrev pub lines_of : Show → Opening → List Call → List ℕ
lines_of w o cs = shown w (endings_of o cs)
