-- How what the readers answer is told to C.
use Rattle.rules.specs.Verdicts.{Verdict, refuse}
use Rattle.std.specs.Prelude.{ℕ, List, take, Err, Ok}
use Rattle.le.specs.Le.{byte}
use Rattle.entities.specs.declared.Entity.{Entity}
use Rattle.entities.specs.declared.Revision.{Revision}
use Rattle.entities.specs.declared.Revision.TheVariants.{R10, R11, R15}
use Rattle.entities.specs.declared.Table.{Table}
use Rattle.control_map.specs.declared.Map.{Map}
use Rattle.streaming_descriptors.specs.declared.Format.{Format}
use Rattle.streaming_descriptors.specs.declared.Frame.{Frame}
use Rattle.streaming.specs.Inner.{streaming_of}
use Rattle.host_told.specs.Told.{number_of, offset_of, verdict_told, kth}
use Rattle.host_told.specs.declared.Told.{Told}
use Rattle.host_camera.specs.declared.EntityTold.{EntityTold}
use Rattle.host_camera.specs.declared.FormatTold.{FormatTold}
use Rattle.host_camera.specs.declared.FrameTold.{FrameTold}
use Rattle.host_camera.specs.declared.ControlsTold.{ControlsTold}

-- of the streaming block t under a control block's answer: the control block's own refusal comes first
abbrev pub under_told : Verdict → Table → List ℕ → Told
under_told (Ok _) table t = verdict_told (streaming_of table t).verdict
under_told (Err r) table t = verdict_told (refuse r.number r.offset)

-- ---- a control block
abbrev pub no_entity : EntityTold
no_entity = record { there = 0; id = 0; kind = 0; zero = 0; terminal = 0; offset = 0 }

abbrev pub entity_told : Entity → EntityTold
entity_told e = record { there = 1; id = e.id; kind = e.kind; zero = 0; terminal = e.terminal; offset = e.offset }

-- bcdUVC of the header
abbrev pub revision_number : Revision → ℕ
revision_number R10 = 256
revision_number R11 = 272
revision_number R15 = 336

abbrev pub revision_told : Verdict → Revision → ℕ
revision_told (Ok _) v = revision_number v
revision_told (Err r) v = 0

-- a map's length and bytes are 0 where it is refused
abbrev pub controls_told : Map → ControlsTold
controls_told m = record { number = number_of m.verdict; length = m.length; offset = offset_of m.verdict }

-- ---- a streaming block
abbrev pub no_format : FormatTold
no_format = record { there = 0; kind = 0; guid = 0; bits = 0; frames = 0; default = 0; offset = 0 }

abbrev pub format_told : Format → FormatTold
format_told f =
    record { there = 1; kind = f.kind; guid = f.guid; bits = f.bits; frames = f.frames; default = f.default; offset = f.offset }

abbrev pub no_frame : FrameTold
no_frame = record { there = 0; format = 0; number = 0; intervals = 0; width = 0; height = 0; size = 0; interval = 0 }

-- byte 3 of its descriptor is its number
abbrev pub frame_told : List ℕ → Frame → FrameTold
frame_told s f =
    record {
      there = 1;
      format = f.format;
      number = byte s f.offset 3;
      intervals = f.k;
      width = f.width;
      height = f.height;
      size = f.size;
      interval = f.interval;
    }

abbrev pub format_under : Verdict → Table → List ℕ → ℕ → FormatTold
format_under (Ok _) table t k = kth no_format format_told (take (streaming_of table t).format_count (streaming_of table t).formats) k
format_under (Err r) table t k = no_format

abbrev pub frame_under : Verdict → Table → List ℕ → ℕ → FrameTold
frame_under (Ok _) table t k = kth no_frame (frame_told t) (take (streaming_of table t).frame_count (streaming_of table t).frames) k
frame_under (Err r) table t k = no_frame
