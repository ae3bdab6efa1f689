-- Samples of transfers: the P samples, and those of VP8 headers, against the sizes of the ledger program, frame size 256 and payload size 62.
use Rattle.std.specs.Prelude.{None, Some}
use Rattle.session_rules.specs.Options.{Layer, Stamp}
use Prim.Native.Nat.{ℕ, ◌+◌, ◌*◌}
use mathlib.Core.Path.{◌≡◌, refl}
use mathlib.Core.List.{[], ◌∷◌}
use mathlib.Core.Bool.{false}
use Rattle.rules.specs.IfElse.{if_else}
use Rattle.session_rules.specs.Transfer.{flag_of, layer_place, need_of, rows_by, stamp_of, layer_of, header_by, reading_of}
use Rattle.session_rules.specs.Layouts.{header_layout}
use Rattle.sizes.specs.declared.Opening.{Opening}
use Rattle.sizes.specs.declared.HeaderKind.TheVariants.{Old, Vp8}
use Rattle.session_rules.specs.declared.Reading.{Reading}
use Rattle.session_rules.specs.declared.Reading.TheVariants.{Unreadable, Readable}

abbrev pub opening : Opening
opening = record { frame = 256; payload = 62; framing = 3; kind = Old }

-- 02 80: readable
pub bare-header : reading_of opening (0x02 ∷ 0x80 ∷ []) ≡ Readable (record { len = 2; fid = false; eof = false; still = false; error = false; stamp = None; layer = None })
unfolding reading_of header_layout header_by stamp_of layer_of rows_by need_of layer_place flag_of if_else
bare-header = refl

-- 03 80 is 64
pub header-past-end : reading_of opening (0x03 ∷ 0x80 ∷ []) ≡ Unreadable 64
unfolding reading_of header_layout header_by stamp_of layer_of rows_by need_of layer_place flag_of if_else
header-past-end = refl

-- 02 00 is 66
pub header-without-end : reading_of opening (0x02 ∷ 0x00 ∷ []) ≡ Unreadable 66
unfolding reading_of header_layout header_by stamp_of layer_of rows_by need_of layer_place flag_of if_else
header-without-end = refl

-- 0B 8C and nine bytes, whichever they are, is 65
pub header-short-of-clock : (a b c d e f g h i : ℕ) → reading_of opening (0x0B ∷ 0x8C ∷ a ∷ b ∷ c ∷ d ∷ e ∷ f ∷ g ∷ h ∷ i ∷ []) ≡ Unreadable 65
unfolding reading_of header_layout header_by stamp_of layer_of rows_by need_of layer_place flag_of if_else
header-short-of-clock a b c d e f g h i = refl

-- 0C 8C and ten bytes: readable, with the stamp of its bytes 2 to 5
pub header-with-clock : (a b c d e f g h i j : ℕ) → reading_of opening (0x0C ∷ 0x8C ∷ a ∷ b ∷ c ∷ d ∷ e ∷ f ∷ g ∷ h ∷ i ∷ j ∷ []) ≡ Readable
    (record { len = 12; fid = false; eof = false; still = false; error = false; stamp = Some (a + b * 256 + (c + d * 256) * 65536); layer = None })
unfolding reading_of header_layout header_by stamp_of layer_of rows_by need_of layer_place flag_of if_else
header-with-clock a b c d e f g h i j = refl

-- ---- the VP8 kind (document 02, Twelve), against the same sizes
abbrev pub vp8 : Opening
vp8 = record { frame = 256; payload = 62; framing = 3; kind = Vp8 }

-- what a header says that has a length, a stamp and perhaps a layer, and nothing else
abbrev pub timed : ℕ → Stamp → Layer → Reading
timed n s y = Readable (record { len = n; fid = false; eof = false; still = false; error = false; stamp = s; layer = y })

-- 08 04 00 80 and a PTS: readable
pub vp8-stamp : (a b c d : ℕ) → reading_of vp8 (0x08 ∷ 0x04 ∷ 0x00 ∷ 0x80 ∷ a ∷ b ∷ c ∷ d ∷ []) ≡ timed 8 (Some (a + b * 256 + (c + d * 256) * 65536)) None
unfolding reading_of header_layout header_by stamp_of layer_of rows_by need_of layer_place flag_of if_else
vp8-stamp a b c d = refl

-- 04 00 00 80 is 67
pub vp8-without-stamp : reading_of vp8 (0x04 ∷ 0x00 ∷ 0x00 ∷ 0x80 ∷ []) ≡ Unreadable 67
unfolding reading_of header_layout header_by stamp_of layer_of rows_by need_of layer_place flag_of if_else
vp8-without-stamp = refl

-- 04 00 00 00 is 66
pub vp8-without-end : reading_of vp8 (0x04 ∷ 0x00 ∷ 0x00 ∷ 0x00 ∷ []) ≡ Unreadable 66
unfolding reading_of header_layout header_by stamp_of layer_of rows_by need_of layer_place flag_of if_else
vp8-without-end = refl

-- 08 04 80 00 and a PTS is 66: D15 is no end of header
pub vp8-end-too-low : (a b c d : ℕ) → reading_of vp8 (0x08 ∷ 0x04 ∷ 0x80 ∷ 0x00 ∷ a ∷ b ∷ c ∷ d ∷ []) ≡ Unreadable 66
unfolding reading_of header_layout header_by stamp_of layer_of rows_by need_of layer_place flag_of if_else
vp8-end-too-low a b c d = refl

-- 08 84 00 80 and a PTS is 65: D7 announces a layer
pub vp8-short-of-layer : (a b c d : ℕ) → reading_of vp8 (0x08 ∷ 0x84 ∷ 0x00 ∷ 0x80 ∷ a ∷ b ∷ c ∷ d ∷ []) ≡ Unreadable 65
unfolding reading_of header_layout header_by stamp_of layer_of rows_by need_of layer_place flag_of if_else
vp8-short-of-layer a b c d = refl

-- 08 04 00 is 61
pub vp8-three-bytes : reading_of vp8 (0x08 ∷ 0x04 ∷ 0x00 ∷ []) ≡ Unreadable 61
unfolding reading_of header_layout header_by stamp_of layer_of rows_by need_of layer_place flag_of if_else
vp8-three-bytes = refl

-- 10 8C 00 80, a PTS, six bytes, 34 12, AA: layer 4,660, and one byte of data
pub vp8-layer : (a b c d e f g h i j : ℕ) →
    reading_of vp8 (0x10 ∷ 0x8C ∷ 0x00 ∷ 0x80 ∷ a ∷ b ∷ c ∷ d ∷ e ∷ f ∷ g ∷ h ∷ i ∷ j ∷ 0x34 ∷ 0x12 ∷ 0xAA ∷ [])
    ≡ timed 16 (Some (a + b * 256 + (c + d * 256) * 65536)) (Some 4_660)
unfolding reading_of header_layout header_by stamp_of layer_of rows_by need_of layer_place flag_of if_else
vp8-layer a b c d e f g h i j = refl
