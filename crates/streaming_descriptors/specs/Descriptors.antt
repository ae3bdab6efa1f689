-- The descriptors of a streaming block: what a subtype number says, which length each has, and what a format and a frame give. `s` is the block, `o` an offset.
use Rattle.std.specs.Prelude.{ℕ, zero, suc, ◌+◌, ◌*◌, List, [], ◌∷◌, Bool, true, false, ◌&&◌, ◌||◌, take, drop, leb, eqb}
use Rattle.le.specs.Le.{byte, le16_at, le32_at}
use Rattle.rules.specs.IfElse.{if_else}
pub use Rattle.blocks.specs.Blocks.{len_at}
use Rattle.streaming_descriptors.specs.declared.Kind.{Kind}
use Rattle.streaming_descriptors.specs.declared.Kind.TheVariants.{Header, Formats, Frames, Unread, Other}
use Rattle.streaming_descriptors.specs.declared.Layout.{Layout}
use Rattle.streaming_descriptors.specs.declared.Format.{Format}
use Rattle.streaming_descriptors.specs.declared.Frame.{Frame}

-- the subtypes that are refused: 0x0A, 0x0C and 0x12 to 0x18
abbrev pub unread : ℕ → Bool
unread n = eqb n 0x0A || (eqb n 0x0C || (leb 0x12 n && leb n 0x18))

-- What a subtype number says, with one case for everything unknown. Formats and frames go by the format's subtype: 4 uncompressed, 6 MJPEG, 0x10 frame-based.
unfoldable pub kind_of : ℕ → Kind
kind_of n =
    if_else (eqb n 1) Header
    (if_else (eqb n 4) (Formats 4)
    (if_else (eqb n 5) (Frames 4)
    (if_else (eqb n 6) (Formats 6)
    (if_else (eqb n 7) (Frames 6)
    (if_else (eqb n 0x10) (Formats 0x10)
    (if_else (eqb n 0x11) (Frames 0x10)
    (if_else (unread n) Unread Other)))))))

abbrev pub kind_at : List ℕ → ℕ → Kind
kind_at s o = kind_of (byte s o 2)

abbrev pub is_header : Kind → Bool
is_header Header = true
is_header (Formats f) = false
is_header (Frames f) = false
is_header Unread = false
is_header Other = false

abbrev pub is_format : Kind → Bool
is_format Header = false
is_format (Formats f) = true
is_format (Frames f) = false
is_format Unread = false
is_format Other = false

abbrev pub is_frame : Kind → Bool
is_frame Header = false
is_frame (Formats f) = false
is_frame (Frames f) = true
is_frame Unread = false
is_frame Other = false

-- the subtype of the format, or of the format that a frame of the kind stands under; 0 for what is neither
abbrev pub format_of : Kind → ℕ
format_of Header = 0
format_of (Formats f) = f
format_of (Frames f) = f
format_of Unread = 0
format_of Other = 0

-- ---- where the fields stand that differ from kind to kind, a line for each; no descriptor has the length of what is none
abbrev pub uncompressed : Layout
uncompressed = record { length = 27; guided = true; default = 22; sized = true; interval = 21; k = 25 }

abbrev pub mjpeg : Layout
mjpeg = record { length = 11; guided = false; default = 6; sized = true; interval = 21; k = 25 }

abbrev pub frame_based : Layout
frame_based = record { length = 28; guided = true; default = 22; sized = false; interval = 17; k = 21 }

abbrev pub no_layout : Layout
no_layout = record { length = 256; guided = false; default = 6; sized = true; interval = 21; k = 25 }

-- by the format's subtype
unfoldable pub format_layout : ℕ → Layout
format_layout f =
    if_else (eqb f 4) uncompressed
    (if_else (eqb f 6) mjpeg
    (if_else (eqb f 0x10) frame_based
    no_layout))

-- the intervals of a frame of every kind stand at 26
abbrev pub intervals_at : ℕ
intervals_at = 26

-- a frame-based format's variable-size flag, and the bytes per line of its frame
abbrev pub flag_at : List ℕ → ℕ → ℕ
flag_at s o = byte s o 27

abbrev pub line_at : List ℕ → ℕ → ℕ
line_at s o = le32_at s (o + 22)

-- the length of a frame with k intervals
abbrev pub frame_length : ℕ → ℕ
frame_length zero = 38
frame_length (suc k) = 26 + 4 * suc k

-- k, and the length, of the frame at o under a format of subtype f
abbrev pub k_at : ℕ → List ℕ → ℕ → ℕ
k_at f s o = byte s o (format_layout f).k

abbrev pub frame_length_at : ℕ → List ℕ → ℕ → ℕ
frame_length_at f s o = frame_length (k_at f s o)

-- ---- the lengths, a line for each row of document 01
unfoldable pub shape : Kind → List ℕ → ℕ → Bool
shape Header s o = eqb (len_at s o) (13 + byte s o 3 * byte s o 12)
shape (Formats f) s o = eqb (len_at s o) (format_layout f).length
shape (Frames f) s o = eqb (len_at s o) (frame_length_at f s o)
shape Unread s o = true
shape Other s o = true

-- ---- the GUID, compared whole
unfoldable pub same_bytes : List ℕ → List ℕ → Bool
same_bytes [] [] = true
same_bytes [] (y ∷ m) = false
same_bytes (x ∷ l) [] = false
same_bytes (x ∷ l) (y ∷ m) = eqb x y && same_bytes l m

abbrev pub guid_end : List ℕ
guid_end = 0x00 ∷ 0x00 ∷ 0x10 ∷ 0x00 ∷ 0x80 ∷ 0x00 ∷ 0x00 ∷ 0xAA ∷ 0x00 ∷ 0x38 ∷ 0x9B ∷ 0x71 ∷ []

abbrev pub yuy2 : List ℕ
yuy2 = 0x59 ∷ 0x55 ∷ 0x59 ∷ 0x32 ∷ guid_end

abbrev pub nv12 : List ℕ
nv12 = 0x4E ∷ 0x56 ∷ 0x31 ∷ 0x32 ∷ guid_end

-- 1 YUY2, 2 NV12, 3 other
unfoldable pub sort_of : List ℕ → ℕ
sort_of g = if_else (same_bytes g yuy2) 1 (if_else (same_bytes g nv12) 2 3)

abbrev pub guid_at : List ℕ → ℕ → List ℕ
guid_at s o = take 16 (drop (o + 5) s)

-- ---- what a descriptor gives
abbrev pub no_format : Format
no_format = record { kind = 0; guid = 0; bits = 0; frames = 0; default = 0; offset = 0 }

abbrev pub no_frame : Frame
no_frame = record { format = 0; k = 0; width = 0; height = 0; offset = 0; size = 0; interval = 0 }

-- a format of subtype f; one without a GUID has sort 0 and 0 bits per pixel
unfoldable pub format_at : ℕ → List ℕ → ℕ → Format
format_at f s o =
    record {
      kind = f;
      guid = if_else (format_layout f).guided (sort_of (guid_at s o)) 0;
      bits = if_else (format_layout f).guided (byte s o 21) 0;
      frames = byte s o 4;
      default = byte s o (format_layout f).default;
      offset = o;
    }

-- a frame under format number n, of subtype f; one without a buffer size has 0
unfoldable pub frame_at : ℕ → ℕ → List ℕ → ℕ → Frame
frame_at f n s o =
    record {
      format = n;
      k = k_at f s o;
      width = le16_at s (o + 5);
      height = le16_at s (o + 7);
      offset = o;
      size = if_else (format_layout f).sized (le32_at s (o + 17)) 0;
      interval = le32_at s (o + (format_layout f).interval);
    }
