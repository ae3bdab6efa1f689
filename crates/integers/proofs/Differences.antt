-- The difference of two integers, of which a sum is said already.
use Prim.Native.Nat.{ℕ, ◌+◌}
use lib.IntN.{ℤ, neg_ℤ, ◌-ℤ◌}
use Rattle.integers.proofs.Integers.{Is, is-neg, is-plus}

pub is-minus : (x y : ℤ) (p q r s : ℕ) → Is x p q → Is y r s → Is (x -ℤ y) (p + s) (q + r)
is-minus x y p q r s e f = is-plus x (neg_ℤ y) p q s r e (is-neg y r s f)
