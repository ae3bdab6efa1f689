-- Document 02, Eleven, of integers: the allowed numbers are minimum plus a multiple of step, at most maximum; a wanted number is moved to the nearest allowed
-- one, the lower on a tie.
use Rattle.std.specs.Prelude.{ℕ, ◌≤◌, ◌≡◌, ℤ, pos, nat_abs, ◌+ℤ◌, ◌-ℤ◌, ◌*ℤ◌, ◌≤ℤ◌}

-- what a camera offers of a setting
pub record Range : Type 0 where
  pub minimum : ℤ
  pub maximum : ℤ
  pub step : ℤ

pub record Allowed (g : Range) (n : ℤ) : Type 0 where
  pub times : ℕ
  pub multiple : n ≡ g.minimum +ℤ pos times *ℤ g.step
  pub at_most : n ≤ℤ g.maximum

-- how far two numbers are apart
abbrev pub apart : ℤ → ℤ → ℕ
apart a b = nat_abs (a -ℤ b)

pub record Nearest (g : Range) (wanted n : ℤ) : Type 0 where
  pub allowed : Allowed g n
  -- no allowed number is nearer
  pub nearest : (m : ℤ) → Allowed g m → apart n wanted ≤ apart m wanted
  -- and of two that are as near it is the lower
  pub lower : (m : ℤ) → Allowed g m → apart m wanted ≡ apart n wanted → n ≤ℤ m
