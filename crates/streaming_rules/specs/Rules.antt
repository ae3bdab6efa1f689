-- Rules 20 to 35 of document 01 and 39, 40 of document 02, each with its number: of the block as a whole, and of the descriptor at an offset.
use Rattle.std.specs.Prelude.{ℕ, ◌+◌, ◌/◌, ◌%◌, ◌^◌, ◌<◌, ◌≡◌, ◌⊎◌, List, [], ◌∷◌, Bool, true, false, not, ◌&&◌, ◌||◌, ltb, leb, eqb}
use Rattle.le.specs.Le.{byte, le16_at, le32_at}
use Rattle.rules.specs.Numbered.{Row, row}
use Rattle.blocks.specs.Blocks.{whole_rows, length_broken, type_broken}
use Rattle.blocks.specs.declared.Limits.{Limits}
use Rattle.entities.specs.Table.{entities_most}
use Rattle.intervals.specs.Intervals.{offered}
use Rattle.pictures.specs.Pictures.{CanBeTrue, untrue}
use Rattle.streaming_descriptors.specs.Descriptors.{kind_at, is_header, is_format, is_frame, format_of, shape, format_layout, flag_at, line_at, k_at, intervals_at}
use Rattle.streaming_rules.specs.declared.Sofar.{Sofar}
use Rattle.streaming_descriptors.specs.declared.Format.{Format}
use Rattle.streaming_descriptors.specs.declared.Frame.{Frame}
use Rattle.streaming_descriptors.specs.declared.Kind.{Kind}
use Rattle.streaming_descriptors.specs.declared.Kind.TheVariants.{Header, Formats, Frames, Unread, Other}

-- ours
abbrev pub formats_most : ℕ
formats_most = 8

abbrev pub frames_most : ℕ
frames_most = 64

-- 21 to 24: as 1 to 4, with 13 and 16,384, and wTotalLength at 4
abbrev pub limits : Limits
limits = record { least = 13; most = 16_384; total = 4; first = 21 }

-- 20, with the number of entities that the table says; 21 to 24
unfoldable pub head_rows : ℕ → List ℕ → List Row
head_rows entities s = row 20 (ltb entities_most entities) ∷ whole_rows limits s

-- 26: subtype 2 too
abbrev pub output_header : ℕ
output_header = 2

-- 27: a kind that is refused
abbrev pub is_unread : Kind → Bool
is_unread Header = false
is_unread (Formats f) = false
is_unread (Frames f) = false
is_unread Unread = true
is_unread Other = false

-- 29: endpoint D7 clear
abbrev pub inward : ℕ → Bool
inward endpoint = eqb (endpoint / 2 ^ 7 % 2) 1

-- 32: no format yet, or the last one is of another kind
unfoldable pub misplaced : ℕ → Sofar → Bool
misplaced f a = eqb a.formats 0 || not (eqb a.last.kind f)

-- the frame at o, under a format of subtype f, offers x as an interval
unfoldable pub offers_under : ℕ → List ℕ → ℕ → ℕ → Bool
offers_under f s o x = offered s (o + intervals_at) (k_at f s o) x

-- the same by the descriptor's own subtype
abbrev pub offers_at : List ℕ → ℕ → ℕ → Bool
offers_at s o x = offers_under (format_of (kind_at s o)) s o x

-- 34: the default interval is one that the frame offers
abbrev pub default_offered : ℕ → List ℕ → ℕ → Bool
default_offered f s o = offers_under f s o (le32_at s (o + (format_layout f).interval))

-- 39 in words, of the frame x under format f: its sizes can be true
abbrev pub SizesTrue : Format → Frame → Type 0
SizesTrue f x = CanBeTrue f.guid f.bits x.width x.height x.size

-- 39: a frame under a format of subtype 4 whose sizes cannot be true; x is its format
unfoldable pub untrue_at : ℕ → Format → List ℕ → ℕ → Bool
untrue_at f x s o = eqb f 4 && untrue x.guid x.bits (le16_at s (o + 5)) (le16_at s (o + 7)) (le32_at s (o + 17))

-- 40 in words, of the descriptor at o: a frame-based format's flag is not 0 or 1; or a frame stands under one with the flag 1, and its bytes per line are not 0.
-- x is the last format
abbrev pub FlagOrLine : Format → List ℕ → ℕ → Type 0
FlagOrLine x s o =
    ((kind_at s o ≡ Formats 0x10) × (1 < flag_at s o)) ⊎ ((kind_at s o ≡ Frames 0x10) × (flag_at s x.offset ≡ 1) × (line_at s o ≡ 0 → ⊥))

-- 40, of a frame-based format: its flag is not 0 or 1
unfoldable pub flag_wrong : ℕ → List ℕ → ℕ → Bool
flag_wrong f s o = eqb f 0x10 && ltb 1 (flag_at s o)

-- 40, of a frame under a frame-based format: with the format's flag 1, bytes per line is not 0; x is its format
unfoldable pub line_wrong : ℕ → Format → List ℕ → ℕ → Bool
line_wrong f x s o = eqb f 0x10 && (eqb (flag_at s x.offset) 1 && not (eqb (line_at s o) 0))

-- 29 to 35, 39 and 40, by the kind
unfoldable pub kind_rows : Kind → List ℕ → ℕ → Sofar → List Row
kind_rows k s o a =
    -- the header's endpoint and link
    row 29 (is_header k && not (inward (byte s o 6)))
    ∷ row 30 (is_header k && not a.linked)
    -- the format's number
    ∷ row 31 (is_format k && not (eqb (byte s o 3) (a.formats + 1)))
    -- the frame's place, number, intervals and sizes
    ∷ row 32 (is_frame k && misplaced (format_of k) a)
    ∷ row 33 (is_frame k && not (eqb (byte s o 3) (a.numbered + 1)))
    ∷ row 34 (is_frame k && not (default_offered (format_of k) s o))
    ∷ row 39 (is_frame k && untrue_at (format_of k) a.last s o)
    -- a frame-based format's flag, and the bytes per line of its frames
    ∷ row 40 ((is_format k && flag_wrong (format_of k) s o) || (is_frame k && line_wrong (format_of k) a.last s o))
    -- a ninth format or a 65th frame
    ∷ row 35 ((is_format k && leb formats_most a.formats) || (is_frame k && leb frames_most a.frames))
    ∷ []

-- 25 to 35, 39 and 40, of the descriptor at o: 25, 26 as 5, 6
unfoldable pub rows : List ℕ → ℕ → Sofar → List Row
rows s o a =
    row 25 (length_broken s o)
    ∷ row 26 (type_broken s o || eqb (byte s o 2) output_header)
    ∷ row 27 (is_unread (kind_at s o))
    ∷ row 28 (not (shape (kind_at s o) s o))
    ∷ kind_rows (kind_at s o) s o a
