-- What is told of a verdict, field by field.
use Rattle.rules.specs.Verdicts.{Verdict}
use Prim.Native.Nat.{ℕ}
use mathlib.Core.Path.{◌≡◌}
use Rattle.host_told.specs.Told.{number_of, offset_of, verdict_told}

pub verdict-by : (v : Verdict) (n o : ℕ) → n ≡ number_of v → o ≡ offset_of v → record { number = n; zero = 0; offset = o } ≡ verdict_told v
verdict-by v n o e f = rw (e, f)
