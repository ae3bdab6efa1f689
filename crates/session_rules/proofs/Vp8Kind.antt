-- The VP8 kind of header is document 02's: its reading, word for word.
use Prim.Native.Nat.{ℕ}
use mathlib.Core.Path.{◌≡◌, refl, ap₂}
use mathlib.Core.List.{List, [], ◌∷◌}
use native.Mathlib.Omega.{arith}
use Rattle.rules.specs.Numbered.{first_row}
use Rattle.sizes.specs.declared.Opening.{Opening}
use Rattle.sizes.specs.declared.HeaderKind.TheVariants.{Vp8}
use Rattle.session_rules.specs.Layouts.{header_layout}
use Rattle.session_rules.specs.Transfer.{flags_at, layer_place, need_of, rows_by, stamp_of, layer_of, header_by, sorted, sorted_by, reading_of}
use Rattle.session_rules.specs.Vp8Kind.{vp8_flags, vp8_need, vp8_rules, vp8_header, vp8_reading, Vp8Kind}

vp8-flags : (t : List ℕ) → flags_at (header_layout Vp8) t ≡ vp8_flags t
unfolding header_layout
vp8-flags t = omega arith

vp8-need : (flags : ℕ) → need_of (header_layout Vp8) flags ≡ vp8_need flags
unfolding header_layout need_of layer_place
vp8-need flags = refl

vp8-header : (t : List ℕ) → header_by (header_layout Vp8) t ≡ vp8_header t
unfolding header_layout header_by stamp_of layer_of layer_place
vp8-header t = rw (vp8-flags t)

vp8-first : (payload b : ℕ) (t : List ℕ) → first_row (rows_by (header_layout Vp8) payload (b ∷ t)) ≡ first_row (vp8_rules payload (b ∷ t))
unfolding header_layout rows_by need_of layer_place
vp8-first payload b t = rw (vp8-flags (b ∷ t))

vp8-sorted : (payload : ℕ) (b : ℕ) (t : List ℕ) → sorted_by (header_layout Vp8) payload (b ∷ t) ≡ vp8_reading payload (b ∷ t)
vp8-sorted payload b t = ap₂ sorted (vp8-first payload b t) (vp8-header (b ∷ t))

pub vp8-kind : (o : Opening) → o.kind ≡ Vp8 → Vp8Kind o
unfolding reading_of
vp8-kind o e = record { flags = rw e vp8-flags; need = rw e vp8-need; header = rw e vp8-header; reading = reads }
  where
    reads : (t : List ℕ) → reading_of o t ≡ vp8_reading o.payload t
    reads [] = refl
    reads (b ∷ t) = rw e (vp8-sorted o.payload b t)
