-- Document 02, "Twelve", in its own words: three flag bytes, seven rules, a layer, no still. What the reading of VP8 cameras' headers has to be.
use Rattle.std.specs.Prelude.{ℕ, ◌+◌, ◌*◌, ◌≡◌, List, [], ◌∷◌, false, not, length, get_or, ltb, None, Some}
use Rattle.le.specs.Le.{le16_at, le32_at}
use Rattle.rules.specs.IfElse.{if_else}
use Rattle.rules.specs.Numbered.{Row, row, first_row}
use Rattle.sizes.specs.declared.Opening.{Opening}
use Rattle.session_rules.specs.declared.Header.{Header}
use Rattle.session_rules.specs.declared.Reading.{Reading}
use Rattle.session_rules.specs.Layouts.{header_layout}
use Rattle.session_rules.specs.Transfer.{flag_of, length_at, flags_at, need_of, header_of, sorted, reading_of}

-- bytes 1 to 3 hold the flags, D0 to D23, the low byte first
abbrev pub vp8_flags : List ℕ → ℕ
vp8_flags t = get_or t 1 0 + get_or t 2 0 * 256 + get_or t 3 0 * 65_536

-- a layer stands after the PTS (D2), of 4 bytes, and the SCR (D3), of 6, where they are present
abbrev pub vp8_layer_at : ℕ → ℕ
vp8_layer_at flags = 4 + if_else (flag_of flags 2) 4 0 + if_else (flag_of flags 3) 6 0

-- 4, with 4 for a PTS (D2), 6 for an SCR (D3) and 2 for a layer (D7)
abbrev pub vp8_need : ℕ → ℕ
vp8_need flags = 4 + if_else (flag_of flags 2) 4 0 + if_else (flag_of flags 3) 6 0 + if_else (flag_of flags 7) 2 0

-- rules 61 to 67, of a transfer of a byte or more: D23 is end of header, and a PTS has to be there
abbrev pub vp8_rules : ℕ → List ℕ → List Row
vp8_rules payload t =
    row 61 (ltb (length t) 4)
    ∷ row 62 (ltb payload (length t))
    ∷ row 63 (ltb (length_at t) 4)
    ∷ row 64 (ltb (length t) (length_at t))
    ∷ row 65 (ltb (length_at t) (vp8_need (vp8_flags t)))
    ∷ row 66 (not (flag_of (vp8_flags t) 23))
    ∷ row 67 (not (flag_of (vp8_flags t) 2))
    ∷ []

-- D0 FID, D1 EOF, D6 error; D5 marks no still; the PTS stands at 4
abbrev pub vp8_header : List ℕ → Header
vp8_header t =
    record {
      len = length_at t;
      fid = flag_of (vp8_flags t) 0;
      eof = flag_of (vp8_flags t) 1;
      still = false;
      error = flag_of (vp8_flags t) 6;
      stamp = if_else (flag_of (vp8_flags t) 2) (Some (le32_at t 4)) None;
      layer = if_else (flag_of (vp8_flags t) 7) (Some (le16_at t (vp8_layer_at (vp8_flags t)))) None;
    }

abbrev pub vp8_reading : ℕ → List ℕ → Reading
vp8_reading payload [] = Reading.Idle
vp8_reading payload (b ∷ t) = sorted (first_row (vp8_rules payload (b ∷ t))) (vp8_header (b ∷ t))

-- each parameter of the reading, and the reading, are document 02's
pub record Vp8Kind (o : Opening) : Type 0 where
  pub flags : (t : List ℕ) → flags_at (header_layout o.kind) t ≡ vp8_flags t
  pub need : (flags : ℕ) → need_of (header_layout o.kind) flags ≡ vp8_need flags
  pub header : (t : List ℕ) → header_of o t ≡ vp8_header t
  pub reading : (t : List ℕ) → reading_of o t ≡ vp8_reading o.payload t
