-- What is told, part by part; and of a streaming block behind an accepted control block.
use Rattle.std.specs.Prelude.{Err}
use Rattle.rules.specs.declared.Refused.{Refused}
use Rattle.rules.specs.Verdicts.{Verdict, accept}
use Prim.Native.Nat.{ℕ}
use mathlib.Core.Path.{◌≡◌, refl, ◌∙◌}
use mathlib.Core.List.{List}
use lib.ListN.{take}
use Rattle.entities.specs.declared.Table.{Table}
use Rattle.le.specs.Le.{byte}
use Rattle.control_map.specs.Answer.{MapIs}
use Rattle.control_map.specs.declared.Map.{Map}
use Rattle.streaming_descriptors.specs.declared.Frame.{Frame}
use Rattle.streaming.specs.declared.Streaming.{Streaming}
use Rattle.streaming.specs.Inner.{streaming_of}
use Rattle.host_camera.specs.Told.{under_told, no_format, format_told, no_frame, frame_told, format_under, frame_under}
use Rattle.host_camera.specs.Questions.{ControlsAnswer, ControlsLeft}
use Rattle.host_told.specs.Told.{number_of, offset_of, verdict_told, kth}
use Rattle.host_told.specs.declared.Told.{Told}
use Rattle.host_camera.specs.declared.FormatTold.{FormatTold}
use Rattle.host_camera.specs.declared.FrameTold.{FrameTold}

-- what is told of a frame and of controls, field by field
pub frame-by : (s : List ℕ) (f : Frame) (n : ℕ) → n ≡ byte s f.offset 3
    → record { there = 1; format = f.format; number = n; intervals = f.k; width = f.width; height = f.height; size = f.size; interval = f.interval } ≡ frame_told s f
frame-by s f n e = rw e

pub controls-by : (s : List ℕ) (id : ℕ) (m : Map) → MapIs s id m → (n o : ℕ) → n ≡ number_of m.verdict → o ≡ offset_of m.verdict
    → ControlsAnswer s id (record { number = n; length = m.length; offset = o })
controls-by s id m h n o e f = record { answer = m; read = h; same = rw (e, f) }

pub controls-left : (s : List ℕ) (id : ℕ) (m : Map) → MapIs s id m → ControlsLeft s id m.bytes
controls-left s id m h = record { answer = m; read = h; same = refl }

-- ---- a streaming block
pub refused-under : (v : Verdict) (table : Table) (t : List ℕ) (w : Refused) → v ≡ Err w → (r : Told) → r ≡ verdict_told v → r ≡ under_told v table t
refused-under v table t w e r g = g ∙ (rw e)

module _ (v : Verdict) (table : Table) (t : List ℕ) (e : v ≡ accept) (s : Streaming) (f : s ≡ streaming_of table t) where
  pub told_under : (r : Told) → r ≡ verdict_told s.verdict → r ≡ under_told v table t
  told_under r g = rw (e, ← f) g

  pub format-under : (k : ℕ) (r : FormatTold) → r ≡ kth no_format format_told (take s.format_count s.formats) k → r ≡ format_under v table t k
  format-under k r g = rw (e, ← f) g

  pub frame-under : (k : ℕ) (r : FrameTold) → r ≡ kth no_frame (frame_told t) (take s.frame_count s.frames) k → r ≡ frame_under v table t k
  frame-under k r g = rw (e, ← f) g
