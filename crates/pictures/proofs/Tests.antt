-- What the code's tests say of `untrue`, in their order; and that no product wraps.
use Prim.Native.Nat.{ℕ, ◌*◌, ◌≤◌, ◌<◌}
use mathlib.Core.Path.{◌≡◌}
use mathlib.Core.Bool.{Bool, true, false, not}
use lib.Dec.{leb}
use borrow.Author.Tests.{eq-eqb, ne_eqb}
use native.Mathlib.Omega.{arith}
use native.Mathlib.Nat.{mul-le-mul}
use Rattle.rules.specs.IfElse.{if_else}
use Rattle.pictures.specs.Pictures.{bits_of, in_bytes, untrue}

module _ (sort bits width height size right : ℕ) (e : right ≡ bits_of sort) where
  pub unasked : right ≡ 0 → false ≡ untrue sort bits width height size
  unfolding untrue if_else
  unasked h = rw (← e, h)

  module _ (n : right ≡ 0 → ⊥) where
    pub no-width : width ≡ 0 → true ≡ untrue sort bits width height size
    unfolding untrue if_else
    no-width h = rw (← e, ne_eqb right 0 n, eq-eqb width 0 h)

    module _ (w : width ≡ 0 → ⊥) where
      pub no-height : height ≡ 0 → true ≡ untrue sort bits width height size
      unfolding untrue if_else
      no-height h = rw (← e, ne_eqb right 0 n, ne_eqb width 0 w, eq-eqb height 0 h)

      module _ (v : height ≡ 0 → ⊥) where
        pub other-bits : (bits ≡ right → ⊥) → true ≡ untrue sort bits width height size
        unfolding untrue if_else
        other-bits h = rw (← e, ne_eqb right 0 n, ne_eqb width 0 w, ne_eqb height 0 v, ne_eqb bits right h)

        pub by-room : bits ≡ right → (r : Bool) → r ≡ leb (in_bytes (width * height * bits)) size → not r ≡ untrue sort bits width height size
        unfolding untrue if_else
        by-room h r q = rw (← e, ne_eqb right 0 n, ne_eqb width 0 w, ne_eqb height 0 v, eq-eqb bits right h, ← q)

-- ---- 16, 16 and 8 bits
pub pixels-fit : (a b : ℕ) → a < 65536 → b < 65536 → a * b ≤ 65535 * 65535
pixels-fit a b h k = mul-le-mul {n₁ = a} {m₁ = b} {n₂ = 65535} {m₂ = 65535} (omega arith) (omega arith)

pub bits_fit : (n c : ℕ) → n ≤ 65535 * 65535 → c < 256 → n * c ≤ 65535 * 65535 * 255
bits_fit n c h k = mul-le-mul {n₁ = n} {m₁ = c} {n₂ = 65535 * 65535} {m₂ = 255} h (omega arith)
