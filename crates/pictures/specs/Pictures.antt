-- Frame sizes that cannot be true (39). A format has a GUID sort, 1 YUY2, 2 NV12, and bits per pixel; its frame has width, height and buffer size.
use Rattle.std.specs.Prelude.{ℕ, ◌+◌, ◌*◌, ◌/◌, ◌≤◌, ◌≡◌, Bool, true, false, not, ◌⊎◌, leb, eqb}
use Rattle.rules.specs.IfElse.{if_else}

-- ---- THE RULE, as document 02 words it
-- it is asked of YUY2 and NV12 alone
abbrev pub Asked : ℕ → Type 0
Asked sort = (sort ≡ 1) ⊎ (sort ≡ 2)

-- neither width nor height is 0, the bits per pixel are 16 and 12 in turn, and the buffer holds width times height times bits
pub record CanBeTrue (sort bits width height size : ℕ) : Type 0 where
  pub wide : 1 ≤ width
  pub high : 1 ≤ height
  pub yuy2 : sort ≡ 1 → bits ≡ 16
  pub nv12 : sort ≡ 2 → bits ≡ 12
  pub room : width * height * bits ≤ 8 * size

-- ---- THE TEST that decides it
-- the bits per pixel of a sort; 0 of one that is not asked
unfoldable pub bits_of : ℕ → ℕ
bits_of sort = if_else (eqb sort 1) 16 (if_else (eqb sort 2) 12 0)

-- so many bits, divided by 8 and rounded up
abbrev pub in_bytes : ℕ → ℕ
in_bytes n = (n + 7) / 8

unfoldable pub untrue : ℕ → ℕ → ℕ → ℕ → ℕ → Bool
untrue sort bits width height size =
    if_else (eqb (bits_of sort) 0) false
    (if_else (eqb width 0) true
    (if_else (eqb height 0) true
    (if_else (not (eqb bits (bits_of sort))) true
    (not (leb (in_bytes (width * height * bits)) size)))))
