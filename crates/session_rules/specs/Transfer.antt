-- Document 01, "Payload transfers", and document 02, "Twelve": what one transfer says, over the kinds of header. `t` is the transfer's bytes, `l` what differs.
use Rattle.session_rules.specs.Options.{Layer, Stamp}
use Rattle.std.specs.Prelude.{ℕ, zero, suc, ◌+◌, ◌-◌, ◌*◌, ◌/◌, ◌%◌, ◌^◌, ◌<◌, ◌≡◌, List, [], ◌∷◌, Bool, not, ◌&&◌, length, get_or, ltb, eqb, None, Some}
use Rattle.le.specs.Le.{le16_at, le32_at}
use Rattle.rules.specs.IfElse.{if_else}
use Rattle.rules.specs.Numbered.{Row, row, first_row, Given, NoneOf}
use Rattle.sizes.specs.declared.Opening.{Opening}
use Rattle.session_rules.specs.declared.Layout.{Layout}
use Rattle.session_rules.specs.declared.Header.{Header}
use Rattle.session_rules.specs.declared.Reading.{Reading}
use Rattle.session_rules.specs.declared.Reading.TheVariants.{Idle, Unreadable, Readable}
use Rattle.session_rules.specs.Layouts.{header_layout}

-- Dn of a number is set
unfoldable pub flag_of : ℕ → ℕ → Bool
flag_of b n = eqb (b / 2 ^ n % 2) 1

-- n bytes from o on as one number, the low one first
abbrev pub number_at : List ℕ → ℕ → ℕ → ℕ
number_at t o zero = 0
number_at t o (suc n) = get_or t o 0 + number_at t (suc o) n * 256

-- byte 0 is the header length; the bytes after it, up to where fields begin, hold the flags
abbrev pub length_at : List ℕ → ℕ
length_at t = get_or t 0 0

abbrev pub flags_at : Layout → List ℕ → ℕ
flags_at l t = number_at t 1 (l.least - 1)

-- D7 announces a layer, in a kind that has layers; it stands after the PTS (D2), of 4 bytes, and the SCR (D3), of 6
abbrev pub has_layer : Layout → ℕ → Bool
has_layer l flags = l.layered && flag_of flags 7

unfoldable pub layer_place : Layout → ℕ → ℕ
layer_place l flags = l.least + if_else (flag_of flags 2) 4 0 + if_else (flag_of flags 3) 6 0

-- how long a header has to be: its length and flags, with 4 for a PTS, 6 for an SCR and 2 for a layer
unfoldable pub need_of : Layout → ℕ → ℕ
need_of l flags = layer_place l flags + if_else (has_layer l flags) 2 0

-- no PTS, in a kind that has to have one
abbrev pub stamp_missing : Layout → ℕ → Bool
stamp_missing l flags = l.timed && not (flag_of flags 2)

-- rules 61 to 67, in the order in which they are asked
unfoldable pub rows_by : Layout → ℕ → List ℕ → List Row
rows_by l payload t =
    row 61 (ltb (length t) l.least)
    ∷ row 62 (ltb payload (length t))
    ∷ row 63 (ltb (length_at t) l.least)
    ∷ row 64 (ltb (length t) (length_at t))
    ∷ row 65 (ltb (length_at t) (need_of l (flags_at l t)))
    ∷ row 66 (not (flag_of (flags_at l t) l.ends))
    ∷ row 67 (stamp_missing l (flags_at l t))
    ∷ []

abbrev pub transfer_rows : Opening → List ℕ → List Row
transfer_rows o t = rows_by (header_layout o.kind) o.payload t

-- the PTS: four bytes after the flags, if D2 says that it is present
unfoldable pub stamp_of : Layout → List ℕ → ℕ → Stamp
stamp_of l t flags = if_else (flag_of flags 2) (Some (le32_at t l.least)) None

-- the layer: two bytes, if there is one
unfoldable pub layer_of : Layout → List ℕ → ℕ → Layer
layer_of l t flags = if_else (has_layer l flags) (Some (le16_at t (layer_place l flags))) None

-- D0 FID, D1 EOF, D5 still, in a kind that has stills, D6 error. Further bytes of a longer header are header too.
unfoldable pub header_by : Layout → List ℕ → Header
header_by l t =
    record {
      len = length_at t;
      fid = flag_of (flags_at l t) 0;
      eof = flag_of (flags_at l t) 1;
      still = l.stills && flag_of (flags_at l t) 5;
      error = flag_of (flags_at l t) 6;
      stamp = stamp_of l t (flags_at l t);
      layer = layer_of l t (flags_at l t);
    }

abbrev pub header_of : Opening → List ℕ → Header
header_of o t = header_by (header_layout o.kind) t

-- unreadable by the first broken rule, or readable
abbrev pub sorted : ℕ → Header → Reading
sorted zero h = Readable h
sorted (suc k) h = Unreadable (suc k)

-- a transfer of a byte or more
abbrev pub sorted_by : Layout → ℕ → List ℕ → Reading
sorted_by l payload t = sorted (first_row (rows_by l payload t)) (header_by l t)

-- a length of 0 is idle
unfoldable pub reading_of : Opening → List ℕ → Reading
reading_of o [] = Idle
reading_of o (b ∷ t) = sorted_by (header_layout o.kind) o.payload (b ∷ t)

-- UNREADABLE BY k: a transfer of a byte or more, of which rule k is the first that is broken
pub record FirstBroken (o : Opening) (t : List ℕ) (k : ℕ) : Type 0 where
  pub bytes : 0 < length t
  pub broken : Given (transfer_rows o t) k

-- READABLE, with the header h: a transfer of a byte or more, of which no rule is broken
pub record NoneBroken (o : Opening) (t : List ℕ) (h : Header) : Type 0 where
  pub bytes : 0 < length t
  pub whole : NoneOf (transfer_rows o t)
  pub header : h ≡ header_of o t
