-- The number of each verdict.
use Rattle.std.specs.Prelude.{Err}
use Rattle.rules.specs.declared.Refused.{Refused}
use Rattle.rules.specs.Verdicts.{Verdict, accept}
use Prim.Native.Nat.{ℕ}
use mathlib.Core.Path.{◌≡◌}
use mathlib.Core.List.{List}
use Rattle.entities.specs.declared.Table.{Table}
use Rattle.streaming.specs.declared.Streaming.{Streaming}
use Rattle.streaming.specs.Inner.{streaming_of}
use Rattle.exports.specs.Numbers.{number_of, number_under}

pub accepted-is : (v : Verdict) → v ≡ accept → 0 ≡ number_of v
unfolding number_of
accepted-is v e = rw e

pub refused-is : (v : Verdict) (r : Refused) → v ≡ Err r → r.number ≡ number_of v
unfolding number_of
refused-is v r e = rw e

pub refused-under : (v : Verdict) (r : Refused) (t : Table) (s : List ℕ) → v ≡ Err r → r.number ≡ number_under v t s
unfolding number_under
refused-under v r t s e = rw e

pub accepted-under : (v : Verdict) (t : Table) (s : List ℕ) (a : Streaming) (r : ℕ) → v ≡ accept → a ≡ streaming_of t s → r ≡ number_of a.verdict → r ≡ number_under v t s
unfolding number_under
accepted-under v t s a r e f g = rw (e, ← f) g
