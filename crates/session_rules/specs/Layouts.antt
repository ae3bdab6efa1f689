-- Document 02, Twelve: what differs between the kinds of header. The old kind is document 01's; VP8 cameras have source document 004's, of three flag bytes.
use Rattle.std.specs.Prelude.{◌≤◌, ◌<◌, ◌≡◌, true, false}
use Rattle.sizes.specs.declared.HeaderKind.{HeaderKind}
use Rattle.sizes.specs.declared.HeaderKind.TheVariants.{Old, Vp8}
use Rattle.session_rules.specs.declared.Layout.{Layout}

-- the bytes of a header with no field; the bit that says end of header; whether D5 marks a still, D7 announces a layer, and a PTS has to be there
unfoldable pub header_layout : HeaderKind → Layout
header_layout Old = record { least = 2; ends = 7; stills = true; layered = false; timed = false }
header_layout Vp8 = record { least = 4; ends = 23; stills = false; layered = true; timed = true }

-- what each row of the table has: a header with no field is of two or four bytes, and the end of header one of its flags
pub record Laid (l : Layout) : Type 0 where
  pub low : 2 ≤ l.least
  pub high : l.least ≤ 4
  pub even : l.least ≡ 3 → ⊥
  pub bit : l.ends < 32
