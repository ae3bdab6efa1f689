use native.Mathlib.Omega.{arith}
use Rattle.text.proofs.Puts.{then}
use Rattle.configuration_text.proofs.stream.Goals as goal

pub returns : goal.returns
returns c = record { put = then c.line-next.ensures.put c.settings.ensures.put; upper_bound = omega (arith, c.line-next.ensures.upper_bound, c.settings.ensures.upper_bound) }
