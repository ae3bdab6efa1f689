use native.Mathlib.Omega.{arith}
use Rattle.sources.proofs.Found.{no-bit, one_place}
use Rattle.sources.proofs.links.place_bit.Goals as goal

pub overflow_cast-result : goal.overflow_cast-result
overflow_cast-result c = omega (arith, c.requires _ c.in-Some.is)

pub overflow_shl-result : goal.overflow_shl-result
overflow_shl-result c = omega (arith, c.requires _ c.in-Some.is)

pub returns-in-None : goal.returns-in-None
returns-in-None c = no-bit _ c.in-None.is

pub returns-in-Some : goal.returns-in-Some
returns-in-Some c = one_place _ _ c.in-Some.is (c.requires _ c.in-Some.is)
