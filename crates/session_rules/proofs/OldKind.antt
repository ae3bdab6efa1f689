-- The old kind of header is document 01's: its reading, word for word. It has no layer.
use Rattle.std.specs.Prelude.{None}
use Prim.Native.Nat.{ℕ, zero, suc, ◌+◌}
use mathlib.Core.Path.{◌≡◌, refl, sym, ◌∙◌, ap, ap₂}
use mathlib.Core.List.{List, [], ◌∷◌}
use native.Mathlib.Omega.{arith}
use lib.ListN.{length}
use lib.Dec.{ltb, eqb}
use borrow.Author.Tests.{le-ltb, ne_eqb}
use Rattle.rules.specs.IfElse.{if_else}
use Rattle.rules.specs.Numbered.{first_row}
use Rattle.sizes.specs.declared.Opening.{Opening}
use Rattle.sizes.specs.declared.HeaderKind.TheVariants.{Old}
use Rattle.session_rules.specs.declared.Header.{Header}
use Rattle.session_rules.specs.declared.Reading.TheVariants.{Readable}
use Rattle.session_rules.specs.Layouts.{header_layout}
use Rattle.session_rules.specs.Transfer.{flags_at, layer_place, need_of, rows_by, stamp_of, layer_of, header_by, sorted, sorted_by, reading_of}
use Rattle.session_rules.specs.OldKind.{old_flags, old_need, old_rules, old_header, old_reading, OldKind}
use Rattle.session_rules.proofs.Laid.{flags-one}
use Rattle.session_rules.proofs.Readings.{readable-exactly}

old-flags : (t : List ℕ) → flags_at (header_layout Old) t ≡ old_flags t
unfolding header_layout
old-flags t = sym (flags-one (header_layout Old) t refl)

old-need : (flags : ℕ) → need_of (header_layout Old) flags ≡ old_need flags
unfolding header_layout need_of layer_place if_else
old-need flags = go (old_need flags)
  where
    go : (n : ℕ) → n + 0 ≡ n
    go n = omega arith

old-header : (t : List ℕ) → header_by (header_layout Old) t ≡ old_header t
unfolding header_layout header_by stamp_of layer_of if_else
old-header t = rw (old-flags t)

-- under two bytes and not none: one byte
one_byte : (n : ℕ) → ltb (suc n) 2 ≡ eqb (suc n) 1
one_byte zero = refl
one_byte (suc n) = le-ltb (suc (suc n)) 2 (omega arith) ∙ sym (ne_eqb (suc (suc n)) 1 (λ e. omega arith))

-- 67 is never broken
old-first : (payload b : ℕ) (t : List ℕ) → first_row (rows_by (header_layout Old) payload (b ∷ t)) ≡ first_row (old_rules payload (b ∷ t))
unfolding header_layout rows_by
old-first payload b t = rw (old-flags (b ∷ t), old-need (old_flags (b ∷ t)), one_byte (length t))

old-sorted : (payload : ℕ) (b : ℕ) (t : List ℕ) → sorted_by (header_layout Old) payload (b ∷ t) ≡ old_reading payload (b ∷ t)
old-sorted payload b t = ap₂ sorted (old-first payload b t) (old-header (b ∷ t))

pub old-kind : (o : Opening) → o.kind ≡ Old → OldKind o
unfolding reading_of
old-kind o e = record { flags = rw e old-flags; need = rw e old-need; header = rw e old-header; reading = reads }
  where
    reads : (t : List ℕ) → reading_of o t ≡ old_reading o.payload t
    reads [] = refl
    reads (b ∷ t) = rw e (old-sorted o.payload b t)

-- no layer of the old kind
pub no-layer : (o : Opening) (t : List ℕ) (h : Header) → o.kind ≡ Old → reading_of o t ≡ Readable h → h.layer ≡ None
no-layer o t h e r = ap (λ (g : Header). g.layer) (((readable-exactly o t h).0 r).header ∙ (old-kind o e).header t)
