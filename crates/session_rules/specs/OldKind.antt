-- Document 01, "Payload transfers", in its own words: one flag byte, six rules, no layer. What the reading of the old kind of header has to be.
use Rattle.std.specs.Prelude.{ℕ, ◌+◌, ◌≡◌, List, [], ◌∷◌, not, length, get_or, ltb, eqb, None, Some}
use Rattle.le.specs.Le.{le32_at}
use Rattle.rules.specs.IfElse.{if_else}
use Rattle.rules.specs.Numbered.{Row, row, first_row}
use Rattle.sizes.specs.declared.Opening.{Opening}
use Rattle.session_rules.specs.declared.Header.{Header}
use Rattle.session_rules.specs.declared.Reading.{Reading}
use Rattle.session_rules.specs.Layouts.{header_layout}
use Rattle.session_rules.specs.Transfer.{flag_of, length_at, flags_at, need_of, header_of, sorted, reading_of}

-- byte 1 holds the flags
abbrev pub old_flags : List ℕ → ℕ
old_flags t = get_or t 1 0

-- 2, with 4 for a PTS (D2) and 6 for an SCR (D3)
abbrev pub old_need : ℕ → ℕ
old_need flags = 2 + if_else (flag_of flags 2) 4 0 + if_else (flag_of flags 3) 6 0

-- rules 61 to 66, of a transfer of a byte or more
abbrev pub old_rules : ℕ → List ℕ → List Row
old_rules payload t =
    row 61 (eqb (length t) 1)
    ∷ row 62 (ltb payload (length t))
    ∷ row 63 (ltb (length_at t) 2)
    ∷ row 64 (ltb (length t) (length_at t))
    ∷ row 65 (ltb (length_at t) (old_need (old_flags t)))
    ∷ row 66 (not (flag_of (old_flags t) 7))
    ∷ []

-- D0 FID, D1 EOF, D5 still, D6 error; the PTS stands at 2
abbrev pub old_header : List ℕ → Header
old_header t =
    record {
      len = length_at t;
      fid = flag_of (old_flags t) 0;
      eof = flag_of (old_flags t) 1;
      still = flag_of (old_flags t) 5;
      error = flag_of (old_flags t) 6;
      stamp = if_else (flag_of (old_flags t) 2) (Some (le32_at t 2)) None;
      layer = None;
    }

abbrev pub old_reading : ℕ → List ℕ → Reading
old_reading payload [] = Reading.Idle
old_reading payload (b ∷ t) = sorted (first_row (old_rules payload (b ∷ t))) (old_header (b ∷ t))

-- each parameter of the reading, and the reading, are document 01's
pub record OldKind (o : Opening) : Type 0 where
  pub flags : (t : List ℕ) → flags_at (header_layout o.kind) t ≡ old_flags t
  pub need : (flags : ℕ) → need_of (header_layout o.kind) flags ≡ old_need flags
  pub header : (t : List ℕ) → header_of o t ≡ old_header t
  pub reading : (t : List ℕ) → reading_of o t ≡ old_reading o.payload t
