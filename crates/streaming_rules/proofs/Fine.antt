-- What holds of a descriptor that breaks no rule.
use Prim.Native.Nat.{ℕ, ◌+◌, ◌≤◌, ◌<◌}
use mathlib.Core.Path.{◌≡◌, refl, sym, ap}
use mathlib.Core.List.{List}
use mathlib.Core.Bool.{true, false, ◌&&◌, true≢false}
use lib.ListN.{length, get_or}
use lib.Dec.{leb, eqb}
use borrow.Author.Tests.{leb-false, eqb-true, not-false}
use native.Mathlib.Omega.{arith}
use Rattle.le.specs.Le.{byte}
use Rattle.rules.specs.IfElse.{if_else}
use Rattle.rules.specs.Numbered.{NoneOf, is_broken}
use Rattle.rules.proofs.Rows.{Numbered, none-broken, or-first, or-second, and_second, and-not}
use Rattle.blocks.specs.Blocks.{descriptor_type, header_subtype, whole_rows}
use Rattle.blocks.proofs.Right.{placed, sizes}
use Rattle.streaming_descriptors.specs.Descriptors.{len_at, kind_of, kind_at, shape, is_header, is_format, is_frame, format_of, format_layout, frame_length_at}
use Rattle.streaming_rules.specs.Rules.{inward, misplaced, default_offered, untrue_at, flag_wrong, line_wrong, limits, head_rows, kind_rows, rows, formats_most, frames_most}
use Rattle.streaming_descriptors.specs.declared.Kind.{Kind}
use Rattle.streaming_descriptors.specs.declared.Kind.TheVariants.{Header, Formats, Frames, Unread, Other}
use Rattle.streaming_rules.specs.declared.Sofar.{Sofar}
use Rattle.streaming_descriptors.proofs.Subtypes.{format-room, frame-room}

pub record Fine (s : List ℕ) (o : ℕ) (a : Sofar) : Type 0 where
  pub long : 3 ≤ len_at s o
  pub inside : o + len_at s o ≤ length s
  pub shaped : shape (kind_at s o) s o ≡ true
  pub endpoint : is_header (kind_at s o) ≡ true → inward (byte s o 6) ≡ true
  pub linked : is_header (kind_at s o) ≡ true → a.linked ≡ true
  pub index : is_format (kind_at s o) ≡ true → byte s o 3 ≡ a.formats + 1
  pub fewer : is_format (kind_at s o) ≡ true → a.formats < formats_most
  pub placed : is_frame (kind_at s o) ≡ true → misplaced (format_of (kind_at s o)) a ≡ false
  pub numbered : is_frame (kind_at s o) ≡ true → byte s o 3 ≡ a.numbered + 1
  pub default : is_frame (kind_at s o) ≡ true → default_offered (format_of (kind_at s o)) s o ≡ true
  pub true-size : is_frame (kind_at s o) ≡ true → untrue_at (format_of (kind_at s o)) a.last s o ≡ false
  pub flag : is_format (kind_at s o) ≡ true → flag_wrong (format_of (kind_at s o)) s o ≡ false
  pub line : is_frame (kind_at s o) ≡ true → line_wrong (format_of (kind_at s o)) a.last s o ≡ false
  pub few : is_frame (kind_at s o) ≡ true → a.frames < frames_most

pub fine : (s : List ℕ) (o : ℕ) (a : Sofar) → NoneOf (rows s o a) → Fine s o a
unfolding rows kind_rows is_broken if_else
fine s o a d =
    let p = placed s o (kept 25) in
    record {
      long = p.long;
      inside = p.inside;
      shaped = not-false _ (kept 28);
      endpoint = λ e. not-false _ (and-not (is_header k) _ (kept 29) e);
      linked = λ e. not-false _ (and-not (is_header k) _ (kept 30) e);
      index = λ e. eqb-true (byte s o 3) (a.formats + 1) (not-false _ (and-not (is_format k) _ (kept 31) e));
      fewer = λ e. leb-false formats_most a.formats (and-not (is_format k) _ (or-first _ _ (kept 35)) e);
      placed = λ e. and-not (is_frame k) _ (kept 32) e;
      numbered = λ e. eqb-true (byte s o 3) (a.numbered + 1) (not-false _ (and-not (is_frame k) _ (kept 33) e));
      default = λ e. not-false _ (and-not (is_frame k) _ (kept 34) e);
      true-size = λ e. and-not (is_frame k) _ (kept 39) e;
      flag = λ e. and-not (is_format k) _ (or-first _ _ (kept 40)) e;
      line = λ e. and-not (is_frame k) _ (or-second (is_format k && flag_wrong (format_of k) s o) _ (kept 40)) e;
      few = λ e. leb-false frames_most a.frames (and-not (is_frame k) _ (or-second (is_format k && leb formats_most a.formats) _ (kept 35)) e);
    }
  where
    k : Kind
    k = kind_at s o

    -- rule n is kept
    kept : (n : ℕ) → is_broken n (rows s o a) ≡ false
    kept n = none-broken (rows s o a) n d

-- no rule has number 0
pub head-numbered : (t : ℕ) (s : List ℕ) → Numbered (head_rows t s)
unfolding head_rows whole_rows
head-numbered t s = omega arith

pub numbered : (s : List ℕ) (o : ℕ) (a : Sofar) → Numbered (rows s o a)
unfolding rows kind_rows
numbered s o a = omega arith

-- the sizes of a block that breaks none of 20 to 24
pub head-sizes : (t : ℕ) (s : List ℕ) → NoneOf (head_rows t s) → (13 ≤ length s) × (length s ≤ 16384)
unfolding head_rows
head-sizes t s n = sizes limits s n.1

-- its first descriptor is the header
pub header-first : (t : ℕ) (s : List ℕ) → NoneOf (head_rows t s) → kind_at s 0 ≡ Header
unfolding head_rows whole_rows is_broken if_else kind_of
header-first t s n = rw (and_second (eqb (get_or s 1 0) descriptor_type) (eqb (get_or s 2 0) header_subtype) (not-false _ (none-broken (head_rows t s) 23 n)))

-- a kind that is a format's, and one that is a frame's
pub format-of : (k : Kind) (f : ℕ) → is_format k ≡ true → format_of k ≡ f → k ≡ Formats f
format-of Header f h e = absurd (true≢false (sym h))
format-of (Formats g) f h e = ap Formats e
format-of (Frames g) f h e = absurd (true≢false (sym h))
format-of Unread f h e = absurd (true≢false (sym h))
format-of Other f h e = absurd (true≢false (sym h))

pub frame-of : (k : Kind) (f : ℕ) → is_frame k ≡ true → format_of k ≡ f → k ≡ Frames f
frame-of Header f h e = absurd (true≢false (sym h))
frame-of (Formats g) f h e = absurd (true≢false (sym h))
frame-of (Frames g) f h e = ap Frames e
frame-of Unread f h e = absurd (true≢false (sym h))
frame-of Other f h e = absurd (true≢false (sym h))

-- a frame is no format
pub no-frame-format : (k : Kind) → is_format k ≡ true → is_frame k ≡ false
no-frame-format Header h = refl
no-frame-format (Formats f) h = refl
no-frame-format (Frames f) h = absurd (true≢false (sym h))
no-frame-format Unread h = refl
no-frame-format Other h = refl

-- a format or a frame that has its length lies within the block, a frame with its intervals
pub format-inside : (k : Kind) (s : List ℕ) (o n : ℕ) → is_format k ≡ true → o + len_at s o ≤ n → shape k s o ≡ true → o + (format_layout (format_of k)).length ≤ n
format-inside Header s o n h w e = absurd (true≢false (sym h))
format-inside (Formats f) s o n h w e = format-room s o n w f e
format-inside (Frames f) s o n h w e = absurd (true≢false (sym h))
format-inside Unread s o n h w e = absurd (true≢false (sym h))
format-inside Other s o n h w e = absurd (true≢false (sym h))

pub frame-inside : (k : Kind) (s : List ℕ) (o n : ℕ) → is_frame k ≡ true → o + len_at s o ≤ n → shape k s o ≡ true → o + frame_length_at (format_of k) s o ≤ n
frame-inside Header s o n h w e = absurd (true≢false (sym h))
frame-inside (Formats f) s o n h w e = absurd (true≢false (sym h))
frame-inside (Frames f) s o n h w e = frame-room s o n w f e
frame-inside Unread s o n h w e = absurd (true≢false (sym h))
frame-inside Other s o n h w e = absurd (true≢false (sym h))
