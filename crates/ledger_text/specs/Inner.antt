-- What the inner contracts cite. Nothing here needs to be believed.
use Rattle.std.specs.Prelude.{Bool, true, false}
use Rattle.trace.specs.declared.State.{State}
use Rattle.trace.specs.declared.State.TheVariants.{Good, Bad, Refused}
use Rattle.frame_lines.specs.declared.Show.{Show}
use Rattle.frame_lines.specs.declared.Show.TheVariants.{Nothing, Replay, Frames}

-- a list of frames has nothing after its lines where the trace is good
abbrev pub is_unsaid : Show → State → Bool
is_unsaid Nothing s = false
is_unsaid Replay s = false
is_unsaid Frames Good = true
is_unsaid Frames (Bad n) = false
is_unsaid Frames (Refused k n) = false
