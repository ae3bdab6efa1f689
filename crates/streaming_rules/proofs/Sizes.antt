-- 39 is broken exactly by a frame under an uncompressed format of YUY2 or NV12 whose sizes cannot be true, and by nothing else.
use Prim.Native.Nat.{ℕ}
use mathlib.Core.Path.{◌≡◌, refl, sym, ◌∙◌}
use mathlib.Core.List.{List}
use mathlib.Core.Bool.{Bool, true, false, ◌&&◌}
use mathlib.Core.Logic.{◌↔◌}
use borrow.Author.Tests.{eqb-true}
use Rattle.rules.specs.IfElse.{if_else}
use Rattle.rules.specs.Numbered.{is_broken}
use Rattle.rules.proofs.Rows.{and_first, and_second}
use Rattle.pictures.specs.Pictures.{Asked, untrue}
use Rattle.pictures.proofs.Deciding.{untrue-decides, can-be-true}
use Rattle.streaming_descriptors.specs.Descriptors.{kind_at, is_frame, format_of, format_layout, frame_at}
use Rattle.streaming_rules.specs.Rules.{untrue_at, SizesTrue, kind_rows, rows}
use Rattle.streaming_descriptors.specs.declared.Kind.TheVariants.{Frames}
use Rattle.streaming_descriptors.specs.declared.Format.{Format}
use Rattle.streaming_rules.specs.declared.Sofar.{Sofar}
use Rattle.streaming_rules.proofs.Fine.{frame-of}

uncompressed : (f : ℕ) (x : Format) (s : List ℕ) (o : ℕ) → untrue_at f x s o ≡ true → f ≡ 4
unfolding untrue_at
uncompressed f x s o e = eqb-true f 4 (and_first _ _ e)

module _ (x : Format) (n : ℕ) (s : List ℕ) (o : ℕ) where
  -- the test reads what the frame's entry has
  reads : untrue_at 4 x s o ≡ untrue x.guid x.bits (frame_at 4 n s o).width (frame_at 4 n s o).height (frame_at 4 n s o).size
  unfolding untrue_at frame_at format_layout if_else
  reads = refl

  pub sizes-true : Asked x.guid → untrue_at 4 x s o ≡ false → SizesTrue x (frame_at 4 n s o)
  sizes-true a e = can-be-true _ _ _ _ _ a (sym reads ∙ e)

  pub sizes-decide : (untrue_at 4 x s o ≡ true) ↔ (Asked x.guid × (SizesTrue x (frame_at 4 n s o) → ⊥))
  sizes-decide = let d = untrue-decides _ _ _ _ _ in (λ e. d.0 (sym reads ∙ e), λ r. reads ∙ d.1 r)

module _ (s : List ℕ) (o : ℕ) (a : Sofar) where
  -- 39's row
  here : is_broken 39 (rows s o a) ≡ (is_frame (kind_at s o) && untrue_at (format_of (kind_at s o)) a.last s o)
  unfolding rows kind_rows is_broken if_else
  here = refl

  pub row-39 : (n : ℕ) → (is_broken 39 (rows s o a) ≡ true) ↔ ((kind_at s o ≡ Frames 4) × Asked a.last.guid × (SizesTrue a.last (frame_at 4 n s o) → ⊥))
  row-39 n = (to, from)
    where
      to : is_broken 39 (rows s o a) ≡ true → (kind_at s o ≡ Frames 4) × Asked a.last.guid × (SizesTrue a.last (frame_at 4 n s o) → ⊥)
      to e =
          let b = sym here ∙ e in
          let u = and_second (is_frame (kind_at s o)) _ b in
          let f = uncompressed (format_of (kind_at s o)) a.last s o u in
          let d = (sizes-decide a.last n s o).0 (rw f at (u)) in
          (frame-of (kind_at s o) 4 (and_first (is_frame (kind_at s o)) _ b) f, d.0, d.1)

      from : (kind_at s o ≡ Frames 4) × Asked a.last.guid × (SizesTrue a.last (frame_at 4 n s o) → ⊥) → is_broken 39 (rows s o a) ≡ true
      from r = here ∙ (rw r.0 ((sizes-decide a.last n s o).1 (r.1, r.2)))

  -- it is never broken for MJPEG, for another GUID or for what is no frame
  pub never-39 : ((kind_at s o ≡ Frames 4) × Asked a.last.guid → ⊥) → is_broken 39 (rows s o a) ≡ false
  never-39 n = go (is_broken 39 (rows s o a)) refl
    where
      go : (b : Bool) → is_broken 39 (rows s o a) ≡ b → b ≡ false
      go true e = let r = (row-39 0).0 e in absurd (n (r.0, r.1))
      go false e = refl
