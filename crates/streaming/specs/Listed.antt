-- What an accepted streaming block says, in document 01's words: of its formats and frames in block order, each with the descriptor that it was read from.
-- `t` is the entity table, `s` the block, `a` its formats and frames.
use Rattle.std.specs.Prelude.{ℕ, ◌+◌, ◌-◌, ◌/◌, ◌%◌, ◌^◌, ◌≤◌, ◌<◌, ◌≡◌, List, true, length, get_or, take}
use Rattle.le.specs.Le.{byte}
use Rattle.rules.specs.Walk.{Comes}
use Rattle.rules.specs.Walk as walk
use Rattle.entities.specs.Table.{output_terminal, entity_at, used, Finds}
use Rattle.entities.specs.declared.Table.{Table}
use Rattle.intervals.specs.Intervals.{Offered}
use Rattle.pictures.specs.Pictures.{Asked}
use Rattle.streaming_descriptors.specs.Descriptors.{kind_at, is_format, is_frame, no_format, no_frame, format_at, frame_at, flag_at, line_at, intervals_at}
use Rattle.streaming_rules.specs.Rules.{SizesTrue, FlagOrLine}
use Rattle.streaming_descriptors.specs.declared.Kind.TheVariants.{Formats, Frames}
use Rattle.streaming_descriptors.specs.declared.Format.{Format}
use Rattle.streaming_descriptors.specs.declared.Frame.{Frame}
use Rattle.streaming.specs.Answer.{streaming_terminal, Seen, endpoint_of, link_of, count_under, format_count, last_of}
use Rattle.streaming.specs.Broken.{BlockRight, block_course, format_in}

abbrev pub frame_in : Seen → ℕ → Frame
frame_in a i = get_or a.frames i no_frame

-- a descriptor of the block starts at o
abbrev pub Starts : Table → List ℕ → ℕ → Type 0
Starts t s o = walk.Starts (block_course t s) o

-- the first used place of the table that has this ID holds an output terminal of type 0x0101
pub record Linked (t : Table) (id : ℕ) : Type 0 where
  pub place : ℕ
  pub inside : place < length (used t)
  pub first : Finds (used t) id place
  pub output : (entity_at (used t) place).kind ≡ output_terminal
  pub terminal : (entity_at (used t) place).terminal ≡ streaming_terminal

-- the format x at place i, with those before it
pub record FormatStands (t : Table) (s : List ℕ) (i : ℕ) (before : List Format) (x : Format) : Type 0 where
  -- it is what the format's descriptor at its offset says
  pub starts : Starts t s x.offset
  pub kind : kind_at s x.offset ≡ Formats x.kind
  pub same : x ≡ format_at x.kind s x.offset
  -- formats are numbered 1, 2, .. in order
  pub number : byte s x.offset 3 ≡ i + 1
  pub order : (j : ℕ) → j < length before → (get_or before j no_format).offset < x.offset
  -- the flag of a frame-based one is 0 or 1
  pub flag : x.kind ≡ 0x10 → flag_at s x.offset ≤ 1

-- the format of a number, from 1, of a list
abbrev pub numbered : List Format → ℕ → Format
numbered formats n = get_or formats (n - 1) no_format

-- the frame x, with the block's formats and the frames before it
pub record FrameStands (t : Table) (s : List ℕ) (formats : List Format) (before : List Frame) (x : Frame) : Type 0 where
  -- it is what the frame's descriptor at its offset says
  pub starts : Starts t s x.offset
  pub same : x ≡ frame_at (numbered formats x.format).kind x.format s x.offset
  -- it stands under a format of its kind: its format is one of the block's, stands before it, and every later format stands behind it
  pub low : 1 ≤ x.format
  pub high : x.format ≤ length formats
  pub kind : kind_at s x.offset ≡ Frames (numbered formats x.format).kind
  pub under : (numbered formats x.format).offset < x.offset
  pub between : (j : ℕ) → x.format ≤ j → j < length formats → x.offset < (get_or formats j no_format).offset
  -- the frames after each format are numbered 1, 2, .. in order
  pub number : byte s x.offset 3 ≡ count_under x.format before + 1
  pub order : (j : ℕ) → j < length before → (get_or before j no_frame).offset < x.offset
  -- its default interval is one that it offers
  pub default : Offered s (x.offset + intervals_at) x.k x.interval
  -- under a frame-based format with the flag 1, its bytes per line are 0
  pub line : (numbered formats x.format).kind ≡ 0x10 → flag_at s (numbered formats x.format).offset ≡ 1 → line_at s x.offset ≡ 0
  -- its sizes can be true, where its format is uncompressed and YUY2 or NV12
  pub sizes : (numbered formats x.format).kind ≡ 4 → Asked (numbered formats x.format).guid → SizesTrue (numbered formats x.format) x

pub record Listed (t : Table) (s : List ℕ) (a : Seen) : Type 0 where
  -- the header's endpoint has D7 set, and its link names an output terminal
  pub endpoint : endpoint_of s / 2 ^ 7 % 2 ≡ 1
  pub link : Linked t (link_of s)
  pub formats : (i : ℕ) → i < length a.formats → FormatStands t s i (take i a.formats) (format_in a i)
  pub frames : (i : ℕ) → i < length a.frames → FrameStands t s a.formats (take i a.frames) (frame_in a i)
  -- and no format or frame of the block is left out
  pub each-format : (o : ℕ) → Starts t s o → is_format (kind_at s o) ≡ true → (i : ℕ) × (i < length a.formats) × ((format_in a i).offset ≡ o)
  pub each-frame : (o : ℕ) → Starts t s o → is_frame (kind_at s o) ≡ true → (i : ℕ) × (i < length a.frames) × ((frame_in a i).offset ≡ o)
  -- each frame count is the number of the format's frames, each default is 1 to the count, and the header has the number of formats
  pub counts : (i : ℕ) → i < length a.formats → (format_in a i).frames ≡ count_under (i + 1) a.frames
  pub defaults : (i : ℕ) → i < length a.formats → (1 ≤ (format_in a i).default) × ((format_in a i).default ≤ (format_in a i).frames)
  pub number : length a.formats ≡ format_count s

-- 39 in words: a frame of subtype 5 under a YUY2 or NV12 format comes, and its sizes cannot be true
pub record Untrue (t : Table) (s : List ℕ) (o : ℕ) : Type 0 where
  pub block : BlockRight t s
  pub comes : Comes (block_course t s) 39 o
  pub frame : kind_at s o ≡ Frames 4
  pub asked : Asked (last_of comes.seen.formats).guid
  pub untrue : SizesTrue (last_of comes.seen.formats) (frame_at 4 (length comes.seen.formats) s o) → ⊥

-- 40 in words: such a format or frame comes
pub record Unsteady (t : Table) (s : List ℕ) (o : ℕ) : Type 0 where
  pub block : BlockRight t s
  pub comes : Comes (block_course t s) 40 o
  pub wrong : FlagOrLine (last_of comes.seen.formats) s o
