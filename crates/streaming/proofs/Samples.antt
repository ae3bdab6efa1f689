-- Small blocks on both sides, about the definitions.
use Rattle.rules.specs.Verdicts.{accept, refuse}
use Prim.Native.Nat.{ℕ}
use mathlib.Core.Path.{◌≡◌, refl}
use mathlib.Core.List.{List, [], ◌∷◌, ◌++◌}
use lib.ListN.{replicate}
use Rattle.rules.specs.IfElse.{if_else}
use Rattle.rules.specs.Walk.{walk_from, walk}
use Rattle.entities.specs.Table.{no_entity, find_from}
use Rattle.entities.specs.declared.Table.{Table}
use Rattle.entities.specs.declared.Revision.TheVariants.{R15}
use Rattle.intervals.specs.Intervals.{list_at, rises, among, offered}
use Rattle.pictures.specs.Pictures.{bits_of, untrue}
use Rattle.streaming_descriptors.specs.Descriptors.{kind_of, format_layout, shape, guid_end, same_bytes, sort_of, format_at, frame_at}
use Rattle.blocks.specs.Blocks.{whole_rows, length_broken, type_broken}
use Rattle.streaming_rules.specs.Rules.{head_rows, misplaced, offers_under, untrue_at, flag_wrong, line_wrong, kind_rows, rows}
use Rattle.rules.specs.Place.{place_from}
use Rattle.streaming.specs.Answer.{is_output, linked_at, count_under, after, refused_by, accepted_with}
use Rattle.streaming.specs.Inner.{default_broken, late_by, after_walk, after_head, streaming_of}

-- one entity: the output terminal 3, of type 0x0101
table : Table
table = record { count = 1; entities = record { id = 3; kind = 3; terminal = 0x0101; offset = 12 } ∷ replicate 31 no_entity; clock = 0; revision = R15 }

header : ℕ → ℕ → ℕ → List ℕ
header total p link = 0x0D ∷ 0x24 ∷ 0x01 ∷ p ∷ total ∷ 0x00 ∷ 0x81 ∷ 0x00 ∷ link ∷ 0x00 ∷ 0x00 ∷ 0x00 ∷ 0x00 ∷ []

-- an MJPEG format with one frame, and a frame that offers 333,333 and 666,666 with the default x
mjpeg : List ℕ
mjpeg = 0x0B ∷ 0x24 ∷ 0x06 ∷ 0x01 ∷ 0x01 ∷ 0x00 ∷ 0x01 ∷ 0x00 ∷ 0x00 ∷ 0x00 ∷ 0x00 ∷ []

frame : ℕ → List ℕ
frame low =
    0x22 ∷ 0x24 ∷ 0x07 ∷ 0x01 ∷ 0x00 ∷ 0x80 ∷ 0x02 ∷ 0xE0 ∷ 0x01 ∷ 0 ∷ 0 ∷ 0 ∷ 0 ∷ 0 ∷ 0 ∷ 0 ∷ 0 ∷ 0x00 ∷ 0x60 ∷ 0x09 ∷ 0x00 ∷ low ∷ 0x16 ∷ 0x05 ∷ 0x00 ∷ 0x02
    ∷ 0x15 ∷ 0x16 ∷ 0x05 ∷ 0x00 ∷ 0x2A ∷ 0x2C ∷ 0x0A ∷ 0x00 ∷ []

-- a header alone, with no formats
bare : (streaming_of table (header 13 0 3)).verdict ≡ accept
unfolding table header streaming_of after_head head_rows whole_rows after_walk walk walk_from rows length_broken type_broken kind_rows flag_wrong line_wrong kind_of format_layout shape linked_at find_from is_output after if_else late_by place_from accepted_with
bare = refl

-- its link names nothing
unlinked : (streaming_of table (header 13 0 4)).verdict ≡ refuse 30 0
unfolding table header streaming_of after_head head_rows whole_rows after_walk walk walk_from rows length_broken type_broken kind_rows flag_wrong line_wrong kind_of format_layout shape linked_at find_from is_output after if_else refused_by
unlinked = refl

-- a format with its frame; and the frame whose default is not in its list
filmed : (streaming_of table (header 58 1 3 ++ (mjpeg ++ frame 0x15))).verdict ≡ accept
unfolding table header mjpeg frame streaming_of after_head head_rows whole_rows after_walk walk walk_from rows length_broken type_broken kind_rows flag_wrong line_wrong kind_of format_layout shape linked_at find_from is_output after if_else format_at frame_at misplaced offers_under untrue_at offered list_at rises among count_under late_by place_from default_broken accepted_with
filmed = refl

unlisted : (streaming_of table (header 58 1 3 ++ (mjpeg ++ frame 0x16))).verdict ≡ refuse 34 24
unfolding table header mjpeg frame streaming_of after_head head_rows whole_rows after_walk walk walk_from rows length_broken type_broken kind_rows flag_wrong line_wrong kind_of format_layout shape linked_at find_from is_output after if_else format_at frame_at misplaced offers_under offered list_at rises among count_under refused_by
unlisted = refl

-- an NV12 format with one frame, of 3 by 3: 14 bytes hold it, and 13 do not
nv12 : List ℕ
nv12 = 0x1B ∷ 0x24 ∷ 0x04 ∷ 0x01 ∷ 0x01 ∷ 0x4E ∷ 0x56 ∷ 0x31 ∷ 0x32 ∷ (guid_end ++ (0x0C ∷ 0x01 ∷ 0x00 ∷ 0x00 ∷ 0x00 ∷ 0x00 ∷ []))

picture : ℕ → List ℕ
picture size =
    0x1E ∷ 0x24 ∷ 0x05 ∷ 0x01 ∷ 0x00 ∷ 0x03 ∷ 0x00 ∷ 0x03 ∷ 0x00 ∷ 0 ∷ 0 ∷ 0 ∷ 0 ∷ 0 ∷ 0 ∷ 0 ∷ 0 ∷ size ∷ 0x00 ∷ 0x00 ∷ 0x00 ∷ 0x15 ∷ 0x16 ∷ 0x05 ∷ 0x00 ∷ 0x01
    ∷ 0x15 ∷ 0x16 ∷ 0x05 ∷ 0x00 ∷ []

held : (streaming_of table (header 70 1 3 ++ (nv12 ++ picture 14))).verdict ≡ accept
unfolding table header nv12 picture streaming_of after_head head_rows whole_rows after_walk walk walk_from rows length_broken type_broken kind_rows flag_wrong line_wrong kind_of format_layout shape linked_at find_from is_output after if_else same_bytes sort_of format_at frame_at misplaced offers_under untrue_at untrue bits_of offered list_at rises among count_under late_by place_from default_broken accepted_with
held = refl

too_small : (streaming_of table (header 70 1 3 ++ (nv12 ++ picture 13))).verdict ≡ refuse 39 40
unfolding table header nv12 picture streaming_of after_head head_rows whole_rows after_walk walk walk_from rows length_broken type_broken kind_rows flag_wrong line_wrong kind_of format_layout shape linked_at find_from is_output after if_else same_bytes sort_of format_at frame_at misplaced offers_under untrue_at untrue bits_of offered list_at rises among count_under refused_by
too_small = refl

-- a frame-based format with a flag, and a frame of it that offers 333,333, with bytes per line
h264 : ℕ → List ℕ
h264 flag = 0x1C ∷ 0x24 ∷ 0x10 ∷ 0x01 ∷ 0x01 ∷ 0x48 ∷ 0x32 ∷ 0x36 ∷ 0x34 ∷ (guid_end ++ (0x00 ∷ 0x01 ∷ 0x00 ∷ 0x00 ∷ 0x00 ∷ 0x00 ∷ flag ∷ []))

moving : ℕ → List ℕ
moving line =
    0x1E ∷ 0x24 ∷ 0x11 ∷ 0x01 ∷ 0x00 ∷ 0x80 ∷ 0x02 ∷ 0xE0 ∷ 0x01 ∷ 0 ∷ 0 ∷ 0 ∷ 0 ∷ 0 ∷ 0 ∷ 0 ∷ 0 ∷ 0x15 ∷ 0x16 ∷ 0x05 ∷ 0x00 ∷ 0x01 ∷ line ∷ 0x00 ∷ 0x00 ∷ 0x00
    ∷ 0x15 ∷ 0x16 ∷ 0x05 ∷ 0x00 ∷ []

frame-based : (streaming_of table (header 71 1 3 ++ (h264 1 ++ moving 0))).verdict ≡ accept
unfolding table header h264 moving streaming_of after_head head_rows whole_rows after_walk walk walk_from rows length_broken type_broken kind_rows flag_wrong line_wrong kind_of format_layout shape linked_at find_from is_output after if_else same_bytes sort_of format_at frame_at misplaced offers_under untrue_at offered list_at rises among count_under late_by place_from default_broken accepted_with
frame-based = refl

-- any bytes per line will do with the flag 0; with the flag 1 none but 0; no flag but these
lined : (streaming_of table (header 71 1 3 ++ (h264 0 ++ moving 7))).verdict ≡ accept
unfolding table header h264 moving streaming_of after_head head_rows whole_rows after_walk walk walk_from rows length_broken type_broken kind_rows flag_wrong line_wrong kind_of format_layout shape linked_at find_from is_output after if_else same_bytes sort_of format_at frame_at misplaced offers_under untrue_at offered list_at rises among count_under late_by place_from default_broken accepted_with
lined = refl

line-wrong : (streaming_of table (header 71 1 3 ++ (h264 1 ++ moving 7))).verdict ≡ refuse 40 41
unfolding table header h264 moving streaming_of after_head head_rows whole_rows after_walk walk walk_from rows length_broken type_broken kind_rows flag_wrong line_wrong kind_of format_layout shape linked_at find_from is_output after if_else same_bytes sort_of format_at frame_at misplaced offers_under untrue_at offered list_at rises among count_under refused_by
line-wrong = refl

flag-wrong : (streaming_of table (header 71 1 3 ++ (h264 2 ++ moving 0))).verdict ≡ refuse 40 13
unfolding table header h264 moving streaming_of after_head head_rows whole_rows after_walk walk walk_from rows length_broken type_broken kind_rows flag_wrong line_wrong kind_of format_layout shape linked_at find_from is_output after if_else refused_by
flag-wrong = refl
