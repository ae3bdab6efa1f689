-- The VP8 kind of header: it has no still, and a readable one has a stamp. So no transfer is readable under eight bytes, nor any where the payload size is.
use Rattle.std.specs.Prelude.{Some}
use Prim.Native.Nat.{ℕ, ◌≤◌}
use mathlib.Core.Path.{◌≡◌, refl, ◌∙◌, ap}
use mathlib.Core.Bool.{Bool, true, false, not, true≢false, ◌&&◌}
use mathlib.Core.List.{List}
use native.Mathlib.Omega.{arith}
use lib.ListN.{length}
use Rattle.le.specs.Le.{le32_at}
use Rattle.rules.specs.IfElse.{if_else}
use Rattle.sizes.specs.declared.Opening.{Opening}
use Rattle.sizes.specs.declared.HeaderKind.TheVariants.{Vp8}
use Rattle.session_rules.specs.declared.Header.{Header}
use Rattle.session_rules.specs.declared.Reading.TheVariants.{Readable}
use Rattle.session_rules.specs.Layouts.{header_layout}
use Rattle.session_rules.specs.Transfer.{flag_of, flags_at, stamp_of, header_by, reading_of}
use Rattle.session_rules.proofs.Readings.{FitsBy, stamp-room, readable-exactly, readable-fits}

module _ (o : Opening) (t : List ℕ) (h : Header) (k : o.kind ≡ Vp8) (e : reading_of o t ≡ Readable h) where
  abbrev flags : ℕ
  flags = flags_at (header_layout Vp8) t

  says : h ≡ header_by (header_layout Vp8) t
  says = ((readable-exactly o t h).0 e).header ∙ rw k refl

  pub no-still : h.still ≡ false
  unfolding header_layout header_by
  no-still = ap (λ (g : Header). g.still) says

  fits : FitsBy (header_layout Vp8) o.payload t h.len
  fits = rw k at (readable-fits o t h e)

  stamped : flag_of flags 2 ≡ true
  unfolding header_layout
  stamped = go (flag_of flags 2) fits.timed
    where
      go : (b : Bool) → (true && not b) ≡ false → b ≡ true
      go true p = refl
      go false p = absurd (true≢false p)

  -- four bytes after the flags
  pub its-stamp : h.stamp ≡ Some (le32_at t 4)
  unfolding header_layout header_by stamp_of if_else
  its-stamp = ap (λ (g : Header). g.stamp) says ∙ rw stamped refl

  pub eight-bytes : (8 ≤ length t) × (8 ≤ o.payload)
  unfolding header_layout
  eight-bytes = let f = fits in let r = stamp-room (header_layout Vp8) flags stamped in (omega arith, omega arith)
