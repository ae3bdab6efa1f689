-- What a subtype number says, by ranges; and how long a descriptor is that has its kind's length.
use Prim.Native.Nat.{ℕ, zero, suc, ◌+◌, ◌*◌, ◌≤◌, ◌<◌}
use mathlib.Core.Path.{◌≡◌, refl, sym, ◌∙◌}
use mathlib.Core.List.{List}
use mathlib.Core.Bool.{Bool, true, false, true≢false}
use lib.Dec.{eqb}
use borrow.Author.Tests.{le-leb, lt-leb, ne_eqb, eqb-true}
use native.Mathlib.Omega.{arith}
use native.Mathlib.Nat.{mul-le-mul}
use Rattle.le.specs.Le.{byte}
use Rattle.rules.specs.IfElse.{if_else, if_else-all}
use Rattle.intervals.specs.Intervals.{span}
use Rattle.streaming_descriptors.specs.Descriptors.{kind_of, unread, len_at, shape, uncompressed, mjpeg, frame_based, no_layout, format_layout, format_of, frame_length, k_at, frame_length_at}
use Rattle.streaming_descriptors.specs.declared.Kind.{Kind}
use Rattle.streaming_descriptors.specs.declared.Kind.TheVariants.{Header, Formats, Frames, Unread, Other}
use Rattle.streaming_descriptors.specs.declared.Layout.{Layout}

-- the code looks for 0x12 to 0x18 past 0x10 and 0x11
past-seventeen : (n : ℕ) → 0x10 ≤ n → (n ≡ 0x10 → ⊥) → (n ≡ 0x11 → ⊥) → 0x12 ≤ n
past-seventeen n l a b = omega arith

below-eighteen : (n : ℕ) → n < 0x10 → n < 0x12
below-eighteen n l = omega arith

at_most : (n : ℕ) → n < 0x19 → n ≤ 0x18
at_most n l = omega arith

past-eighteen : (n : ℕ) → 0x18 < n → 0x12 ≤ n
past-eighteen n l = omega arith

-- a number that is none of those that are read
module _ (n : ℕ) (a : n ≡ 1 → ⊥) (c : n ≡ 4 → ⊥) (d : n ≡ 5 → ⊥) (e : n ≡ 6 → ⊥) (f : n ≡ 7 → ⊥) (i : n ≡ 0x10 → ⊥) (j : n ≡ 0x11 → ⊥) where
  rest : kind_of n ≡ if_else (unread n) Unread Other
  unfolding kind_of if_else
  rest = rw (ne_eqb n 1 a, ne_eqb n 4 c, ne_eqb n 5 d, ne_eqb n 6 e, ne_eqb n 7 f, ne_eqb n 0x10 i, ne_eqb n 0x11 j)

  module _ (g : n ≡ 0x0A → ⊥) (h : n ≡ 0x0C → ⊥) where
    pub within : 0x10 ≤ n → n < 0x19 → Unread ≡ kind_of n
    unfolding if_else
    within l m = sym rest-is
      where
        rest-is : kind_of n ≡ Unread
        rest-is = rest ∙ (rw (ne_eqb n 0x0A g, ne_eqb n 0x0C h, le-leb 0x12 n (past-seventeen n l i j), le-leb n 0x18 (at_most n m)))

    pub below : n < 0x10 → Other ≡ kind_of n
    unfolding if_else
    below l = sym rest-is
      where
        rest-is : kind_of n ≡ Other
        rest-is = rest ∙ (rw (ne_eqb n 0x0A g, ne_eqb n 0x0C h, lt-leb 0x12 n (below-eighteen n l)))

    pub above : 0x18 < n → Other ≡ kind_of n
    unfolding if_else
    above l = sym rest-is
      where
        rest-is : kind_of n ≡ Other
        rest-is = rest ∙ (rw (ne_eqb n 0x0A g, ne_eqb n 0x0C h, le-leb 0x12 n (past-eighteen n l), lt-leb n 0x18 l))

-- ---- layouts: their fields lie within their lengths
pub record Fits (l : Layout) : Type 0 where
  pub numbered : 5 ≤ l.length
  pub default : l.default < l.length
  pub guided : l.guided ≡ true → 22 ≤ l.length
  pub short : l.length ≤ 256
  pub interval : l.interval + 4 ≤ 26
  pub k : l.k < 26

pub fits : (f : ℕ) → Fits (format_layout f)
unfolding format_layout
fits f =
    if_else-all Fits (eqb f 4) uncompressed (if_else (eqb f 6) mjpeg (if_else (eqb f 0x10) frame_based no_layout)) four
    (if_else-all Fits (eqb f 6) mjpeg (if_else (eqb f 0x10) frame_based no_layout) six
    (if_else-all Fits (eqb f 0x10) frame_based no_layout sixteen none))
  where
    four : Fits uncompressed
    four = record { numbered = omega arith; default = omega arith; guided = λ h. omega arith; short = omega arith; interval = omega arith; k = omega arith }

    six : Fits mjpeg
    six = record { numbered = omega arith; default = omega arith; guided = λ h. absurd (true≢false (sym h)); short = omega arith; interval = omega arith; k = omega arith }

    sixteen : Fits frame_based
    sixteen = record { numbered = omega arith; default = omega arith; guided = λ h. omega arith; short = omega arith; interval = omega arith; k = omega arith }

    none : Fits no_layout
    none = record { numbered = omega arith; default = omega arith; guided = λ h. omega arith; short = omega arith; interval = omega arith; k = omega arith }

-- the layout of a kind that callees gave
pub its-layout : (k : Kind) (f : ℕ) (l : Layout) → f ≡ format_of k → l ≡ format_layout f → l ≡ format_layout (format_of k)
its-layout k f l e h = rw (← e) h

module _ (f : ℕ) (l : Layout) (e : l ≡ format_layout f) where
  pub default-in : l.default < (format_layout f).length
  default-in = rw e (fits f).default

  pub guided-in : (o n : ℕ) → o + (format_layout f).length ≤ n → l.guided ≡ true → o + 22 ≤ n
  guided-in o n w h = omega (arith, (fits f).guided (rw e at h))

  pub interval-in : l.interval + 4 ≤ 26
  interval-in = rw e (fits f).interval

  pub k-in : l.k < 26
  k-in = rw e (fits f).k

  pub k-is : (s : List ℕ) (o k : ℕ) → k ≡ byte s o l.k → k ≡ k_at f s o
  k-is s o k h = rw (← e) h

pub no-layout : (f : ℕ) → (f ≡ 4 → ⊥) → (f ≡ 6 → ⊥) → (f ≡ 0x10 → ⊥) → no_layout ≡ format_layout f
unfolding format_layout if_else
no-layout f a b c = rw (ne_eqb f 4 a, ne_eqb f 6 b, ne_eqb f 0x10 c)

-- ---- lengths
module _ (s : List ℕ) (o len : ℕ) (l : len ≡ len_at s o) where
  pub header-short : len < 13 → false ≡ shape Header s o
  unfolding shape
  header-short h = rw (← l, ne_eqb len (13 + byte s o 3 * byte s o 12) (λ e. omega arith))

  pub header-long : (p n : ℕ) → p ≡ byte s o 3 → n ≡ byte s o 12 → eqb len (13 + p * n) ≡ shape Header s o
  unfolding shape
  header-long p n e f = rw (← l, e, f)

  pub format-is : (f : ℕ) (r : Bool) → r ≡ eqb len (format_layout f).length → r ≡ shape (Formats f) s o
  unfolding shape
  format-is f r e = e ∙ (rw l)

  pub frame-short : (f : ℕ) → len < 26 → false ≡ shape (Frames f) s o
  unfolding shape
  frame-short f h = rw (← l, ne_eqb len (frame_length_at f s o) (λ e. omega (arith, least (k_at f s o))))
    where
      least : (k : ℕ) → 26 ≤ frame_length k
      least zero = omega arith
      least (suc k) = omega arith

  pub frame-steps : (f k : ℕ) → k ≡ k_at f s o → k ≡ 0 → eqb len 38 ≡ shape (Frames f) s o
  unfolding shape
  frame-steps f k e z = rw (← l, ← e, z)

  pub frame-list : (f k : ℕ) → k ≡ k_at f s o → (k ≡ 0 → ⊥) → eqb len (26 + 4 * k) ≡ shape (Frames f) s o
  unfolding shape
  frame-list f k e z = rw (← l, ← e) (go k z)
    where
      go : (k : ℕ) → (k ≡ 0 → ⊥) → eqb len (26 + 4 * k) ≡ eqb len (frame_length k)
      go zero z = absurd (z refl)
      go (suc k) z = refl

module _ (s : List ℕ) (o n : ℕ) (w : o + len_at s o ≤ n) where
  pub header-room : shape Header s o ≡ true → o + 13 ≤ n
  unfolding shape
  header-room h = omega (arith, eqb-true (len_at s o) (13 + byte s o 3 * byte s o 12) h)

  pub format-room : (f : ℕ) → shape (Formats f) s o ≡ true → o + (format_layout f).length ≤ n
  unfolding shape
  format-room f h = omega (arith, eqb-true (len_at s o) (format_layout f).length h)

  pub frame-room : (f : ℕ) → shape (Frames f) s o ≡ true → o + frame_length_at f s o ≤ n
  unfolding shape
  frame-room f h = omega (arith, eqb-true (len_at s o) (frame_length_at f s o) h)

-- where the intervals of a frame lie
pub length-span : (k : ℕ) → frame_length k ≡ 26 + span k
length-span zero = refl
length-span (suc k) = refl

pub frame-long : (f : ℕ) (s : List ℕ) (o n : ℕ) → o + frame_length_at f s o ≤ n → o + 26 ≤ n
frame-long f s o n h = omega (arith, length-span (k_at f s o))

pub span-room : (f : ℕ) (s : List ℕ) (o k n : ℕ) → o + frame_length_at f s o ≤ n → k ≡ k_at f s o → o + 26 + span k ≤ n
span-room f s o k n h e = rw e (omega (arith, length-span (k_at f s o)))

pub product-fits : (a b : ℕ) → a < 256 → b < 256 → a * b ≤ 65025
product-fits a b h k = mul-le-mul {n₁ = a} {m₁ = b} {n₂ = 255} {m₂ = 255} (omega arith) (omega arith)
