-- What is read of a streaming block: its link, its formats and frames in block order with the rules 25 to 35 at each descriptor, and what is answered, refused or accepted.
-- `t` is the entity table, `s` the block.
use Rattle.rules.specs.Verdicts.{accept, refuse}
use Rattle.std.specs.Prelude.{ℕ, suc, ◌-◌, List, [], ◌∷◌, ◌++◌, Bool, false, ◌&&◌, length, get_or, replicate, eqb, None, Option, Some}
use Rattle.le.specs.Le.{byte}
use Rattle.rules.specs.IfElse.{if_else}
use Rattle.rules.specs.Pad.{pad}
use Rattle.rules.specs.Walk.{Course}
use Rattle.entities.specs.Table.{output_terminal, entity_at, found_in}
use Rattle.entities.specs.declared.Entity.{Entity}
use Rattle.entities.specs.declared.Table.{Table}
use Rattle.streaming_descriptors.specs.Descriptors.{len_at, kind_at, is_format, is_frame, format_of, no_format, no_frame, format_at, frame_at}
use Rattle.streaming_rules.specs.Rules.{formats_most, frames_most, rows}
use Rattle.streaming_rules.specs.declared.Sofar.{Sofar}
use Rattle.streaming_descriptors.specs.declared.Format.{Format}
use Rattle.streaming_descriptors.specs.declared.Frame.{Frame}
use Rattle.streaming.specs.declared.Streaming.{Streaming}

-- ---- 30: the link names, among the used places of the table, an output terminal of type 0x0101
abbrev pub streaming_terminal : ℕ
streaming_terminal = 0x0101

unfoldable pub is_output : Entity → Bool
is_output e = eqb e.kind output_terminal && eqb e.terminal streaming_terminal

unfoldable pub linked_at : Table → Option ℕ → Bool
linked_at t (Some i) = is_output (entity_at t.entities i)
linked_at t None = false

abbrev pub linked_to : Table → ℕ → Bool
linked_to t link = linked_at t (found_in t link)

-- the header's endpoint, terminal link and number of formats
abbrev pub endpoint_of : List ℕ → ℕ
endpoint_of s = byte s 0 6

abbrev pub link_of : List ℕ → ℕ
link_of s = byte s 0 8

abbrev pub format_count : List ℕ → ℕ
format_count s = byte s 0 3

-- ---- the formats and frames in block order
pub record Seen : Type 0 where
  pub formats : List Format
  pub frames : List Frame

-- how many frames stand under format n
unfoldable pub count_under : ℕ → List Frame → ℕ
count_under n [] = 0
count_under n (f ∷ l) = if_else (eqb f.format n) (suc (count_under n l)) (count_under n l)

-- the last format read; no format has kind 0
abbrev pub last_of : List Format → Format
last_of l = get_or l (length l - 1) no_format

-- what they leave to the rules of the next descriptor
abbrev pub sofar : Bool → Seen → Sofar
sofar linked a =
    record { linked = linked; formats = length a.formats; frames = length a.frames; last = last_of a.formats; numbered = count_under (length a.formats) a.frames }

-- what the descriptor at o adds: a format, a frame under the last format, or nothing
unfoldable pub after : List ℕ → Seen → ℕ → Seen
after s a o =
    record {
      formats = a.formats ++ if_else (is_format (kind_at s o)) (format_at (format_of (kind_at s o)) s o ∷ []) [];
      frames = a.frames ++ if_else (is_frame (kind_at s o)) (frame_at (format_of (kind_at s o)) (length a.formats) s o ∷ []) [];
    }

-- the walk, rules 25 to 35 at each descriptor in turn
abbrev pub course : Bool → List ℕ → Course Seen
course linked s =
    record {
      size = length s;
      len = len_at s;
      rows = λ a o. rows s o (sofar linked a);
      start = record { formats = []; frames = [] };
      gather = after s;
    }

-- ---- the answer: refused, all zero
unfoldable pub refused_by : ℕ → ℕ → Streaming
refused_by k o =
    record {
      verdict = refuse k o;
      endpoint = 0;
      link = 0;
      format_count = 0;
      formats = replicate formats_most no_format;
      frame_count = 0;
      frames = replicate frames_most no_frame;
    }

-- accepted, with these formats and frames
unfoldable pub accepted_with : List ℕ → Seen → Streaming
accepted_with s a =
    record {
      verdict = accept;
      endpoint = endpoint_of s;
      link = link_of s;
      format_count = length a.formats;
      formats = pad formats_most no_format a.formats;
      frame_count = length a.frames;
      frames = pad frames_most no_frame a.frames;
    }
