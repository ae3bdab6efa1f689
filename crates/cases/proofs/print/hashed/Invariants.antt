-- The hash stays below 2 ^ 32, so no turn wraps.
use Rattle.std.proofs.Common.{◌<◌}
use Rattle.cases.proofs.print.hashed.Given as goal

abbrev pub invariant-loop-b : goal.invariant-loop-b
invariant-loop-b l = l.h < 4294967296
