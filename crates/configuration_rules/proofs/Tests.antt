-- A byte past the end, and the bits of wMaxPacketSize.
use Prim.Native.Nat.{ℕ, ◌+◌, ◌-◌, ◌*◌, ◌/◌, ◌%◌, ◌^◌, ◌≤◌, ◌<◌}
use mathlib.Core.Path.{◌≡◌, sym}
use mathlib.Core.List.{List}
use lib.ListN.{length, get_or, get_or-eq_default}
use native.Mathlib.Omega.{arith}
use lib.Bits.{bit_and, and_mask}
use native.Mathlib.Nat.{mod-lt, mul-le-mul}
use Rattle.configuration_rules.specs.Descriptors.{packet_bytes}

pub past_end : (s : List ℕ) (o k : ℕ) → o ≤ length s → length s - o ≤ k → 0 ≡ get_or s (o + k) 0
past_end s o k a b = sym (get_or-eq_default s 0 (omega arith))

-- ---- wMaxPacketSize, by masks
module _ (w : ℕ) where
  low_bits : bit_and w 0x7FF ≡ w % 2048
  low_bits = and_mask w 11

  high_bits : bit_and (w / 2 ^ 11) 3 ≡ w / 2048 % 4
  high_bits = and_mask (w / 2048) 2

  pub low_small : bit_and w 0x7FF < 2048
  low_small = rw low_bits (mod-lt w (omega arith))

  pub high_small : bit_and (w / 2 ^ 11) 3 < 4
  high_small = rw high_bits (mod-lt (w / 2048) (omega arith))

  pub masked : bit_and w 0x7FF * (1 + bit_and (w / 2 ^ 11) 3) ≡ packet_bytes w
  unfolding packet_bytes
  masked = rw (low_bits, high_bits)

  pub few_bytes : bit_and w 0x7FF * (1 + bit_and (w / 2 ^ 11) 3) ≤ 2047 * 4
  few_bytes =
      let a : bit_and w 0x7FF ≤ 2047 = omega (arith, low_small) in
      let b : 1 + bit_and (w / 2 ^ 11) 3 ≤ 4 = omega (arith, high_small) in
      mul-le-mul a b
