-- 40 is broken exactly by a frame-based format whose flag is not 0 or 1, and by a frame under one with the flag 1 whose bytes per line are not 0.
use Prim.Native.Nat.{ℕ, ◌≤◌, ◌<◌}
use mathlib.Core.Path.{◌≡◌, refl, sym, ◌∙◌}
use mathlib.Core.List.{List}
use mathlib.Core.Bool.{Bool, true, false, not, ◌&&◌, ◌||◌, true≢false}
use mathlib.Core.Logic.{◌⊎◌, inl, inr, ⊎_elim, ◌↔◌}
use lib.Dec.{eqb}
use borrow.Author.Tests.{eq-eqb, ne_eqb, lt-ltb, eqb-true, eqb-false, ltb-true, ltb-false, not-false}
use Rattle.rules.specs.IfElse.{if_else}
use Rattle.rules.specs.Numbered.{is_broken}
use Rattle.rules.proofs.Rows.{and_first, and_second, or-either}
use Rattle.streaming_descriptors.specs.Descriptors.{kind_at, is_format, is_frame, format_of, flag_at, line_at}
use Rattle.streaming_rules.specs.Rules.{flag_wrong, line_wrong, FlagOrLine, kind_rows, rows}
use Rattle.streaming_descriptors.specs.declared.Kind.TheVariants.{Formats, Frames}
use Rattle.streaming_descriptors.specs.declared.Format.{Format}
use Rattle.streaming_rules.specs.declared.Sofar.{Sofar}
use Rattle.streaming_rules.proofs.Fine.{format-of, frame-of}

not-true : (b : Bool) → not b ≡ true → b ≡ false
not-true true h = absurd (true≢false (sym h))
not-true false h = refl

module _ (f : ℕ) (s : List ℕ) (o : ℕ) where
  flag-says : flag_wrong f s o ≡ true → (f ≡ 0x10) × (1 < flag_at s o)
  unfolding flag_wrong
  flag-says e = (eqb-true f 0x10 (and_first _ _ e), ltb-true 1 (flag_at s o) (and_second (eqb f 0x10) _ e))

  says-flag : f ≡ 0x10 → 1 < flag_at s o → flag_wrong f s o ≡ true
  unfolding flag_wrong
  says-flag e h = rw (eq-eqb f 0x10 e, lt-ltb 1 (flag_at s o) h)

  -- where it is not broken
  pub flag-right : flag_wrong f s o ≡ false → f ≡ 0x10 → flag_at s o ≤ 1
  unfolding flag_wrong
  flag-right h e = ltb-false 1 (flag_at s o) (rw (eq-eqb f 0x10 e) at h)

  module _ (x : Format) where
    line-says : line_wrong f x s o ≡ true → (f ≡ 0x10) × (flag_at s x.offset ≡ 1) × (line_at s o ≡ 0 → ⊥)
    unfolding line_wrong
    line-says e =
        let t = and_second (eqb f 0x10) _ e in
        (eqb-true f 0x10 (and_first _ _ e), eqb-true (flag_at s x.offset) 1 (and_first _ _ t), eqb-false (line_at s o) 0 (not-true _ (and_second (eqb (flag_at s x.offset) 1) _ t)))

    says-line : f ≡ 0x10 → flag_at s x.offset ≡ 1 → (line_at s o ≡ 0 → ⊥) → line_wrong f x s o ≡ true
    unfolding line_wrong
    says-line e h n = rw (eq-eqb f 0x10 e, eq-eqb (flag_at s x.offset) 1 h, ne_eqb (line_at s o) 0 n)

    -- where it is not broken
    pub line-right : line_wrong f x s o ≡ false → f ≡ 0x10 → flag_at s x.offset ≡ 1 → line_at s o ≡ 0
    unfolding line_wrong
    line-right h e g = eqb-true (line_at s o) 0 (not-false _ (rw (eq-eqb f 0x10 e, eq-eqb (flag_at s x.offset) 1 g) at h))

module _ (s : List ℕ) (o : ℕ) (a : Sofar) where
  -- 40's row
  here :
      is_broken 40 (rows s o a)
      ≡ ((is_format (kind_at s o) && flag_wrong (format_of (kind_at s o)) s o) || (is_frame (kind_at s o) && line_wrong (format_of (kind_at s o)) a.last s o))
  unfolding rows kind_rows is_broken if_else
  here = refl

  at-format : (is_format (kind_at s o) && flag_wrong (format_of (kind_at s o)) s o) ≡ true → FlagOrLine a.last s o
  at-format e =
      let r = flag-says (format_of (kind_at s o)) s o (and_second (is_format (kind_at s o)) _ e) in
      inl (format-of (kind_at s o) 0x10 (and_first _ _ e) r.0, r.1)

  at-frame : (is_frame (kind_at s o) && line_wrong (format_of (kind_at s o)) a.last s o) ≡ true → FlagOrLine a.last s o
  at-frame e =
      let r = line-says (format_of (kind_at s o)) s o a.last (and_second (is_frame (kind_at s o)) _ e) in
      inr (frame-of (kind_at s o) 0x10 (and_first _ _ e) r.0, r.1, r.2)

  format-broken : kind_at s o ≡ Formats 0x10 → 1 < flag_at s o → (is_format (kind_at s o) && flag_wrong (format_of (kind_at s o)) s o) ≡ true
  format-broken e h = rw e (says-flag 0x10 s o refl h)

  frame-broken : kind_at s o ≡ Frames 0x10 → flag_at s a.last.offset ≡ 1 → (line_at s o ≡ 0 → ⊥) → (is_frame (kind_at s o) && line_wrong (format_of (kind_at s o)) a.last s o) ≡ true
  frame-broken e h n = rw e (says-line 0x10 s o a.last refl h n)

  abbrev by_format : Bool
  by_format = is_format (kind_at s o) && flag_wrong (format_of (kind_at s o)) s o

  abbrev by_frame : Bool
  by_frame = is_frame (kind_at s o) && line_wrong (format_of (kind_at s o)) a.last s o

  either : (by_format ≡ true) ⊎ (by_frame ≡ true) → is_broken 40 (rows s o a) ≡ true
  either h = here ∙ (or-either by_format by_frame).1 h

  -- EXACTLY WHEN
  pub row-40 : (is_broken 40 (rows s o a) ≡ true) ↔ FlagOrLine a.last s o
  row-40 = (
    λ e. ⊎_elim at-format at-frame ((or-either by_format by_frame).0 (sym here ∙ e)),
    ⊎_elim (λ r. either (inl (format-broken r.0 r.1))) (λ r. either (inr (frame-broken r.0 r.1 r.2))),
  )
